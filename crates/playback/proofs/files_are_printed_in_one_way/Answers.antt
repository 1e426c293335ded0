use Rattle.playback.proofs.OneText.{one_text}
use Rattle.playback.proofs.files_are_printed_in_one_way.Goals as goal

pub returns : goal.returns
returns c = one_text
