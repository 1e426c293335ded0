-- What a station says to all, message by message.
use Rattle.std.proofs.Common.{◌≡◌, ℕ, ◌+◌, ◌≤◌, Bool, true, cond, not, ◌&&◌, Result, Ok, Err, is_ok, is_err, OnOk, OnErr, sym, ap, subst, refl, ◌∙◌, inl, inr, add-one, arith}
use Rattle.agreement.specs.Sets.{Set}
use Rattle.agreement.specs.Messages.{Payload, message}
use Rattle.agreement.specs.Rig.{Says}
use Rattle.agreement.specs.Networks.{Network as NetworkOf, Enters}
use Rattle.agreement.proofs.Waiting.{message_from, message_to}
use Rattle.stations.specs.Members.{members}
use Rattle.faults.specs.declared.rule.FaultRule.{Ghosts as FaultRule}
use Rattle.network.specs.declared.Network.{Ghosts as Network}
use Rattle.coins.specs.declared.Coin.{Ghosts as Coin}
use Rattle.rig.specs.declared.posts.Posts.{Posts}
use Rattle.rig.specs.declared.rig.Rig.{Rig}
use Rattle.rig.specs.Settings.{between, count_between}
use Rattle.rig.specs.Rigs.{setting, Kept}
use Rattle.rig.specs.Posts.{Told}
use Rattle.rig.proofs.Counts.{count_more, and_true, and_false}

module _ {F N C : Type 0} {f : FaultRule F} {n : Network N} {c : Coin C} where
  pub kept_on : (o r r' : Rig F N C f n c) → Kept o r → Kept r r' → Kept o r'
  kept_on o r r' a b = record {
    rule = b.rule ∙ a.rule;
    coin = b.coin ∙ a.coin;
    setup = b.setup ∙ a.setup;
    floor = b.floor ∙ a.floor;
  }

  -- what a rig was opened with stays
  pub same_setting : (o r : Rig F N C f n c) → Kept o r → setting r ≡ setting o
  same_setting o r s = λ j. record {
    rules = record { rule = f.families (s.rule j); rounds = (s.setup j).rounds.count; coin = c.bits (s.coin j) };
    guest = members (s.setup j).guests;
    opens = members (s.setup j).openings;
  }

-- so many more entered, and so many more were turned away
abbrev grown : Posts → ℕ → ℕ → Posts
grown posts entered away = record { entered = posts.entered + entered; away = posts.away + away }

at_most_1 : (b : Bool) → cond b 1 0 ≤ 1
at_most_1 b = grind arith

-- one message more
module _ {N : Type 0} (net : NetworkOf N) (own : Set) (i : ℕ) (p : Payload) (k : ℕ) (w v v' : N) (posts : Posts)
    (from : own i ≡ true) (told : Told net own i p k w v posts) where
  own_to : between own (message i k p) ≡ own k
  own_to = rw (message_from i k p, message_to i k p, from) refl

  enters : Enters net (message i k p) v v' → (b : Bool) → b ≡ own k
      → Told net own i p (k + 1) w v' (grown posts (cond b 1 0) 0)
  enters e b h =
      let c = count_more (between own) (message i k p) (net.waiting v') (net.waiting v) e.2 in
      let d : cond {A = ℕ} (between own (message i k p)) 1 0 ≡ cond b 1 0 = ap (λ (x : Bool). cond {A = ℕ} x 1 0) (own_to ∙ sym h) in
      let l = at_most_1 b in
      record {
        says = subst (λ x. Says net own i p x w v' (posts.away + 0)) (sym (add-one k))
            (v, posts.away, told.says, inl (e, omega arith));
        entered = omega (arith, c, d, told.entered);
        at_most = omega (arith, l, told.at_most);
      }

  stays : net.turns_away v (message i k p) ≡ true → v' ≡ v → (b : Bool) → b ≡ own k
      → Told net own i p (k + 1) w v' (grown posts 0 (cond b 1 0))
  stays t e b h =
      let l = at_most_1 b in
      record {
        says = subst (λ x. Says net own i p x w v' (posts.away + cond b 1 0)) (sym (add-one k))
            (v, posts.away, told.says, inr (t, e, ap (λ (x : Bool). posts.away + cond x 1 0) h));
        entered = ap (λ (x : N). count_between own (net.waiting x)) e ∙ omega (arith, told.entered);
        at_most = omega (arith, l, told.at_most);
      }

pub told_next : {N A E : Type 0} (net : NetworkOf N) (own : Set) (i : ℕ) (p : Payload) (k : ℕ) (w v v' : N) (posts : Posts)
    (r : Result A E) (is_own waits : Bool) (x y : ℕ) → own i ≡ true → Told net own i p k w v posts
    → is_own ≡ own k → waits ≡ is_ok r → is_err r ≡ net.turns_away v (message i k p)
    → OnOk r (Enters net (message i k p) v v') → OnErr r (v' ≡ v)
    → x ≡ cond (is_own && waits) 1 0 → y ≡ cond (is_own && not waits) 1 0
    → Told net own i p (k + 1) w v' (grown posts x y)
told_next net own i p k w v v' posts (Ok z) is_own waits x y from told e f t o s a b =
    let n : x ≡ cond is_own 1 0 = a ∙ ap (λ (t : Bool). cond (is_own && t) 1 0) f ∙ ap (λ (t : Bool). cond t 1 0) (and_true is_own) in
    let m : y ≡ 0 = b ∙ ap (λ (t : Bool). cond (is_own && not t) 1 0) f ∙ ap (λ (t : Bool). cond t 1 0) (and_false is_own) in
    rw (n, m) (enters net own i p k w v v' posts from told o is_own e)
told_next net own i p k w v v' posts (Err z) is_own waits x y from told e f t o s a b =
    let n : x ≡ 0 = a ∙ ap (λ (t : Bool). cond (is_own && t) 1 0) f ∙ ap (λ (t : Bool). cond t 1 0) (and_false is_own) in
    let m : y ≡ cond is_own 1 0 = b ∙ ap (λ (t : Bool). cond (is_own && not t) 1 0) f ∙ ap (λ (t : Bool). cond t 1 0) (and_true is_own) in
    rw (n, m) (stays net own i p k w v v' posts from told (sym t) s is_own e)
