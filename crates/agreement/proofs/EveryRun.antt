-- Every run keeps the law.
use Rattle.std.proofs.Common.{◌≡◌, ℕ, ◌+◌, ◌*◌, ◌<◌, ◌≤◌, Bool, sym, ap, ◌∙◌, inl, inr, arith}
use Rattle.agreement.specs.Families.{Laws}
use Rattle.agreement.specs.Messages.{message}
use Rattle.agreement.specs.Networks.{Network}
use Rattle.agreement.specs.Station.{Setting, Own, bit}
use Rattle.agreement.specs.Rig.{Rig}
use Rattle.agreement.specs.Law.{Wide, Narrow, OpenAlike, Quiet, Finished, Decided, Unopposed, Unanimity, EveryRun}
use Rattle.agreement.proofs.Waiting.{message_from, message_to}
use Rattle.agreement.proofs.Invariant.{Inv}
use Rattle.agreement.proofs.Runs.{inv_run}
use Rattle.agreement.proofs.Histories.{stations_follow_rules}
use Rattle.agreement.proofs.Cost.{posted_bounded}
use Rattle.agreement.proofs.Safety.{Unanimous, alike_graded, alike_committed, decided_committed, unanimous_on}
use Rattle.agreement.proofs.Safety.{gradings_near, commits_agree, decisions_agree}
use Rattle.agreement.proofs.Liveness.{Rest, finished}
use Rattle.agreement.proofs.Ending.{live_alike, live_narrow, all_decide, all_committed, coin_unanimous}

-- opened alike, all own inputs of stage 0 are that bit
alike_starts : {N : Type 0} {net : Network N} (g : Setting) (r : Rig N) → Inv net g r → (v : Bool) → OpenAlike g v → Unanimous g r.station 0 (bit v)
alike_starts g r i v a k o h = (i.good k o).opened_with ∙ ap bit (a k o)

-- a quiet rig with nothing missing is at rest
rests : {N : Type 0} {net : Network N} (g : Setting) (r : Rig N) → Inv net g r → Quiet net g r → r.missing ≡ 0 → Rest g r.station
rests g r v q m = record {
  good = v.good;
  hears = λ i j oi oj p d. elim (v.reach m i j oi oj p d) [
    | inl h ↦ h
    | inr h ↦ absurd (omega (arith, q.0 (message j i p) (rw (message_from j i p) oj) (rw (message_to j i p) oi)))
  ];
  idle = q.1;
}

module _ {N : Type 0} {net : Network N} (g : Setting) (laws : Laws g.rule) (r : Rig N) (inv : Wide g → Inv net g r) where
  unanimity : (v : Bool) → Wide g → OpenAlike g v → Unanimity g v r
  unanimity v wide a =
      let W = r.station in let i = inv wide in let u = alike_starts g r i v a in (
        λ k round half x o h e. alike_graded g laws wide W i.good v u k (4 * round + 2 * half + 1) x o (omega arith) e,
        λ k b o e. let c = decided_committed g laws wide W i.good k b o e in
            alike_committed g laws wide W i.good v u c.0 b c.1 c.2,
      )

  finished_alike : (v : Bool) → Wide g → OpenAlike g v → Quiet net g r → r.missing ≡ 0 → Finished g r
  finished_alike v wide a q m =
      let W = r.station in let i = inv wide in let t = rests g r i q m in
      finished g laws wide W t (λ σ here e. live_alike g laws wide W t σ v
      (unanimous_on g laws wide W i.good 0 v (alike_starts g r i v a) σ (omega arith)) here e)

  finished_narrow : Narrow g → Quiet net g r → r.missing ≡ 0 → Finished g r
  finished_narrow narrow q m =
      let wide = laws.narrow_is_wide g.guest narrow in let t = rests g r (inv wide) q m in
      finished g laws wide r.station t (live_narrow g laws wide r.station t narrow)

  decided_alike : 1 ≤ g.rounds → (v : Bool) → Wide g → OpenAlike g v → Quiet net g r → r.missing ≡ 0 → Decided g r
  decided_alike some_round v wide a q m =
      let W = r.station in let i = inv wide in let t = rests g r i q m in let u = alike_starts g r i v a in
      let second = unanimous_on g laws wide W i.good 0 v u (4 * 0 + 2) (omega arith) in
      let done : (k : ℕ) → Own g k → 4 * 0 + 3 < (W k).stage
      = λ k o. let f = finished_alike v wide a q m k o in omega arith in
      all_decide g laws wide W t (all_committed g laws wide W t 0 v second done)
      (λ j k b c oj ok ej ek. alike_committed g laws wide W i.good v u j b oj ej
      ∙ sym (alike_committed g laws wide W i.good v u k c ok ek))

  decided_unopposed : (round : ℕ) → Narrow g → Unopposed g round r → Quiet net g r → r.missing ≡ 0 → Decided g r
  decided_unopposed round narrow un q m =
      let W = r.station in let wide = laws.narrow_is_wide g.guest narrow in
      let i = inv wide in let t = rests g r i q m in
      let done : (k : ℕ) → Own g k → 4 * round + 3 < (W k).stage
      = λ k o. let f = finished_narrow narrow q m k o in omega (arith, un.0) in
      all_decide g laws wide W t
      (all_committed g laws wide W t round (g.coin round) (coin_unanimous g W i.good round un.1) done)
      (commits_agree g laws wide W i.good narrow)

pub every_run : {N : Type 0} → EveryRun N
every_run net g laws some_round w calls answers o r h p =
    let inv : Wide g → Inv net g r = λ wide. inv_run net g laws wide calls answers o r h p in
    let wide : Narrow g → Wide g = laws.narrow_is_wide g.guest in
    record {
      answered = (w, o, h, p);
      by_the_rules = stations_follow_rules net g w calls answers o r h p;
      agreement = λ n. decisions_agree g laws (wide n) r.station (inv (wide n)).good n;
      grades_one_apart = λ n i k round half x y oi ok _ ei ek.
          gradings_near g laws (wide n) r.station (inv (wide n)).good n i k (4 * round + 2 * half + 1) x y oi ok
          (omega arith) ei ek;
      unanimity = unanimity g laws r inv;
      finished_when_quiet = λ c q m. elim c [
        | inl n ↦ finished_narrow g laws r inv n q m
        | inr w ↦ finished_alike g laws r inv w.1.0 w.0 w.1.1 q m
      ];
      decided_when_alike = decided_alike g laws r inv some_round;
      decided_when_unopposed = decided_unopposed g laws r inv;
      cost = posted_bounded net g w calls answers o r h p;
    }
