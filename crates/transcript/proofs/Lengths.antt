-- How long lines are.
use Rattle.std.proofs.Common.{length-append}
use Rattle.transcript.proofs.Decimals.{ten_digits, five_digits}

-- what bounds on lines ask for
pub ruleset of_lines = (length-append, ten_digits, five_digits)
