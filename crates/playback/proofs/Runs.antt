-- Runs, call by call.
use Rattle.std.proofs.Common.{◌≡◌, ℕ, ◌+◌, ◌<◌, List, [], ◌∷◌, ◌++◌, length, get_or, take, map, refl, ap, ◌∙◌, sym, subst}
use Rattle.std.proofs.lemmas.List.{append_assoc, append-nil, map-append, take_more}
use Rattle.agreement.specs.Networks.{Network as NetworkOf}
use Rattle.agreement.specs.Station.{Setting}
use Rattle.agreement.specs.Rig.{Rig as ModelRig, Call, Answer, Step, Plays}
use Rattle.transcript.specs.Lines.{call_line}
use Rattle.faults.specs.declared.rule.FaultRule.{Ghosts as FaultRule}
use Rattle.network.specs.declared.Network.{Ghosts as Network}
use Rattle.coins.specs.declared.Coin.{Ghosts as Coin}
use Rattle.rig.specs.declared.rig.Rig.{Rig}
use Rattle.rig.specs.Rigs.{setting, view}
use Rattle.rig.specs.Calls.{answer}
use Rattle.rig.proofs.Posting.{kept_on, same_setting}
use Rattle.calls.specs.declared.call.Call.{Call as Asked}
use Rattle.calls.specs.Calls.{call_of, answer_of}
use Rattle.playback.specs.Runs.{call_lines}
use Rattle.playback.specs.Playing.{PrintsCalls, AddsCall}

module _ {N : Type 0} (net : NetworkOf N) (g : Setting) where
  -- one call more
  plays_more : (calls : List Call) (answers : List Answer) (c : Call) (a : Answer) (o q r : ModelRig N)
      → Plays net g calls answers o q → Step net g c a q r → Plays net g (calls ++ (c ∷ [])) (answers ++ (a ∷ [])) o r
  plays_more [] [] c a o q r p s = (r, subst (λ x. Step net g c a x r) p s, refl)
  plays_more [] (b ∷ answers) c a o q r p s = absurd p
  plays_more (e ∷ calls) [] c a o q r p s = absurd p
  plays_more (e ∷ calls) (b ∷ answers) c a o q r p s = (p.0, p.1, plays_more calls answers c a p.0 q r p.2 s)

  lines_more : (calls : List Call) (answers : List Answer) (c : Call) (a : Answer) (o q : ModelRig N)
      → Plays net g calls answers o q
      → call_lines (calls ++ (c ∷ [])) (answers ++ (a ∷ [])) ≡ call_lines calls answers ++ call_line c a
  lines_more [] [] c a o q p = append-nil (call_line c a)
  lines_more [] (b ∷ answers) c a o q p = absurd p
  lines_more (d ∷ calls) [] c a o q p = absurd p
  lines_more (d ∷ calls) (b ∷ answers) c a o q p =
      ap (λ xs. call_line d b ++ xs) (lines_more calls answers c a p.0 q p.2)
      ∙ sym (append_assoc (call_line d b) (call_lines calls answers) (call_line c a))

module _ {F N C : Type 0} {f : FaultRule F} {n : Network N} {c : Coin C} where
  -- one call more is made, and its line added
  pub calls_more : (calls : List Call) (call : Asked) (text text' : List ℕ) (o q r : Rig F N C f n c)
      → PrintsCalls calls text o q → AddsCall call text text' q r → PrintsCalls (calls ++ (call_of call ∷ [])) text' o r
  calls_more calls call text text' o q r p a =
      let made = answer answer_of a.0 in (
        p.0 ++ (made ∷ []),
        record {
          plays = plays_more n.net (setting o) calls p.0 (call_of call) made (view o) (view q) (view r) p.1.plays
              (subst (λ g. Step n.net g (call_of call) made (view q) (view r)) (same_setting o q p.1.kept) a.1.is_made.step);
          lines = a.1.lines ∙ ap (λ xs. xs ++ call_line (call_of call) made) p.1.lines
              ∙ sym (lines_more n.net (setting o) calls p.0 (call_of call) made (view o) (view q) p.1.plays);
          kept = kept_on o q r p.1.kept a.1.is_made.kept;
        },
      )

  -- the same, where the calls are those of a list before a place
  pub calls_on : (xs : List Asked) (i : ℕ) (d : Asked) (text text' : List ℕ) (o q r : Rig F N C f n c) → i < length xs
      → PrintsCalls (map call_of (take i xs)) text o q → AddsCall (get_or xs i d) text text' q r
      → PrintsCalls (map call_of (take (i + 1) xs)) text' o r
  calls_on xs i d text text' o q r h p a =
      let e : map call_of (take (i + 1) xs) ≡ map call_of (take i xs) ++ (call_of (get_or xs i d) ∷ [])
      = ap (map call_of) (take_more xs i d h) ∙ map-append call_of (take i xs) (get_or xs i d ∷ []) in
      subst (λ ys. PrintsCalls ys text' o r) (sym e) (calls_more (map call_of (take i xs)) (get_or xs i d) text text' o q r p a)
