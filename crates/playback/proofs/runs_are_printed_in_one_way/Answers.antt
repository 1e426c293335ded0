use Rattle.playback.proofs.OneText.{runs_print_one_text}
use Rattle.playback.proofs.runs_are_printed_in_one_way.Goals as goal

pub returns : goal.returns
returns g c = runs_print_one_text
