-- A network that is lent.
use Rattle.std.specs.Borrow.{MutBor}
use Rattle.agreement.specs.Networks.{Network}

-- The network that a loan of one is: its calls go to the network lent, and the loan stays the same loan.
abbrev pub lent : {N : Type 0} → Network N → Network (MutBor N)
lent net = record {
  waiting = λ r. net.waiting r.now;
  turns_away = λ r m. net.turns_away r.now m;
  picks = λ r hint. net.picks r.now hint;
  cleared = λ r. record r { now = net.cleared r.now };
  posted = λ r m. record r { now = net.posted r.now m };
  taken = λ r hint. record r { now = net.taken r.now hint };
}
