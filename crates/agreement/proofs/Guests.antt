-- The run of two own stations and a guest.
use Rattle.std.proofs.Common.{◌≡◌, ℕ, ◌+◌, ◌<◌, true, false, ◌&&◌, if◌then◌else◌, List, [], ◌∷◌, ◌++◌, map, Some as some, None as none, Option, sym, refl, inl, inr, ◌∙◌, arith}
use Rattle.agreement.specs.declared.message.Message.{Message}
use Rattle.agreement.specs.Station.{Guest, is_own, Station, fresh_station, after_act, opening, put}
use Rattle.agreement.specs.Rig.{Rig, Call, turn, deliver, lose, send, repeat, Plays, Step, Refused, addressee_after, capped_count}
use Rattle.agreement.specs.Rig.{Answer, acted, delivered, sent, lost, repeated, refused}
use Rattle.agreement.specs.Example.{stack}
use Rattle.agreement.specs.Guests.{three_stations, from_to, to_itself, passage, refusals, guest_messages, crowded_network, GuestRun}
use Rattle.agreement.proofs.Records.{new_changes, old_stays}
use Rattle.agreement.proofs.Thresholds.{threshold_laws}
use Rattle.agreement.proofs.Exact.{put_changes, rig}

-- a call with its answer leads from a rig to the next
record One (x : Call × Answer) (r r' : Rig (List Message)) : Type 0 where
  step : Step (stack 3) three_stations x.0 x.1 r r'

-- and so do calls in a row
record Row (xs : List (Call × Answer)) (r r' : Rig (List Message)) : Type 0 where
  run : Plays (stack 3) three_stations (map (λ x. x.0) xs) (map (λ x. x.1) xs) r r'

infixr 20 ◌then◌
◌then◌ : {x : Call × Answer} {xs : List (Call × Answer)} {r q r' : Rig (List Message)} → One x r q → Row xs q r' → Row (x ∷ xs) r r'
◌then◌ {x} {xs} {r} {q} o p = record { run = (q, o.step, p.run) }

-- no call
done : {r : Rig (List Message)} → Row [] r r
done = record { run = refl }

refuses : {c : Call} {k : ℕ} {r : Rig (List Message)} → Refused (stack 3) three_stations c k r → One (c, refused k) r r
refuses h = record { step = (h, refl) }

sends : {m : Message} {W : ℕ → Station} {w : List Message} {l : Option Message} {p z : ℕ} → Guest three_stations m.sender
    → m.addressee < 3 → (stack 3).turns_away w m ≡ false → One (send m, sent) (rig W w l p z) (rig W (m ∷ w) l p z)
sends {m} s a h = record { step = (m, refl, s, a, ((h, refl, λ x. refl), (λ k. refl, refl, refl), refl)) }

repeats : {m : Message} {W : ℕ → Station} {w : List Message} {p z : ℕ} → (stack 3).turns_away w m ≡ false
    → One (repeat, repeated m) (rig W w (some m) p z) (rig W (m ∷ w) (some m) p z)
repeats h = record { step = (refl, refl, ((h, refl, λ x. refl), (λ k. refl, refl, refl), refl)) }

loses : {m : Message} {W : ℕ → Station} {w : List Message} {l : Option Message} {p z : ℕ}
    → let more : ℕ = if is_own three_stations m.sender && is_own three_stations m.addressee then 1 else 0 in
    One (lose 0, lost m) (rig W (m ∷ w) l p z) (rig W w l p (capped_count (z + more)))
loses = record { step = (0, refl, ((refl, refl, λ x. refl), (λ k. refl, refl, refl), refl)) }

-- a delivery that changes nothing
ignores : {m : Message} {W : ℕ → Station} {w : List Message} {l : Option Message} {p z : ℕ}
    → addressee_after three_stations m (W m.addressee) ≡ W m.addressee
    → One (deliver 0, delivered m false) (rig W (m ∷ w) l p z) (rig W w (some m) p z)
ignores e = record {
  step = (
    0,
    refl,
    record {
      exits = (refl, refl, λ x. refl);
      stations = (sym e, λ k. inr refl);
      changed = λ x. cc;
      unchanged = λ x. refl;
      last = refl;
      counts = (refl, refl);
    },
  );
}

-- a delivery that changes its addressee
heeds : {m : Message} {W : ℕ → Station} {w : List Message} {l : Option Message} {p z : ℕ}
    → (addressee_after three_stations m (W m.addressee) ≡ W m.addressee → ⊥)
    → One (deliver 0, delivered m true) (rig W (m ∷ w) l p z)
    (rig (put W m.addressee (addressee_after three_stations m (W m.addressee))) w (some m) p z)
heeds {m} {W} d =
    let c = put_changes m.addressee (addressee_after three_stations m (W m.addressee)) W in
    record {
      step = (
        0,
        refl,
        record {
          exits = (refl, refl, λ x. refl);
          stations = c;
          changed = λ x e. d (sym c.0 ∙ e);
          unchanged = λ x. cc;
          last = refl;
          counts = (refl, refl);
        },
      );
    }

-- the stations as they are opened
abbrev at_first : ℕ → Station
at_first i = fresh_station (is_own three_stations i && three_stations.opens i)

-- after the guest's proposal was heard
abbrev with_proposal : ℕ → Station
with_proposal = put at_first 0 (addressee_after three_stations (from_to 2 0 2 0 1) (at_first 0))

-- and its commit
abbrev with_commit : ℕ → Station
with_commit = put with_proposal 1 (addressee_after three_stations (from_to 2 1 3 0 1) (with_proposal 1))

-- station 0 opens while two messages wait
opens : let W = with_commit in let w = to_itself ∷ to_itself ∷ [] in
    One (turn 0, acted 0 (opening 0 1)) (rig W w (some to_itself) 0 0)
    (rig (put W 0 (after_act three_stations.rules (opening 0 1) (W 0))) (from_to 0 0 1 0 1 ∷ w) (some to_itself) 3 1)
opens = record {
  step = (
    refl,
    record {
      by_own = (omega arith, refl);
      due = ((refl, omega arith, refl, refl), λ b h p. grind arith);
      stations = put_changes 0 (after_act three_stations.rules (opening 0 1) (with_commit 0)) with_commit;
      posts = (
        1,
        (
          _,
          1,
          (_, 0, (_, 0, (refl, refl), inl ((refl, refl, λ x. refl), refl)), inr (refl, refl, refl)),
          inr (refl, refl, refl),
        ),
        refl,
        refl,
      );
      last = refl;
    },
  );
}

-- what is left of a crowded network
row_crowded : Row crowded_network (rig with_commit [] (some to_itself) 0 0)
    (rig (put with_commit 0 (after_act three_stations.rules (opening 0 1) (with_commit 0))) [] (some to_itself) 3 2)
row_crowded = repeats refl
    then loses
    then repeats refl
    then repeats refl
    then opens
    then refuses (inr (inr (refl, (omega arith, refl), omega arith, refl)))
    then refuses (inr (refl, (to_itself, refl, refl)))
    then loses
    then loses
    then ignores refl
    then done

-- a message of the guest's that leaves its addressee as it is
passes : {m : Message} {W : ℕ → Station} {xs : List (Call × Answer)} {l : Option Message} {p z : ℕ} {r : Rig (List Message)}
    → Guest three_stations m.sender → m.addressee < 3
    → addressee_after three_stations m (W m.addressee) ≡ W m.addressee → Row xs (rig W [] (some m) p z) r
    → Row (passage m false ++ xs) (rig W [] l p z) r
passes g a e k = sends g a refl then ignores e then k

-- what the guest tells
row_told : {r : Rig (List Message)} → Row crowded_network (rig with_commit [] (some to_itself) 0 0) r
    → Row (guest_messages ++ crowded_network) (rig at_first [] none 0 0) r
row_told k =
    let g : Guest three_stations 2 = (omega arith, refl) in
    sends g (omega arith) refl
    then heeds (new_changes (from_to 2 0 2 0 1) (at_first 0) refl)
    then passes g (omega arith) (old_stays (from_to 2 0 2 0 0) (with_proposal 0) refl)
    (passes g (omega arith) refl
    (passes g (omega arith) refl
    (passes g (omega arith) refl
    (passes g (omega arith) refl
    (passes g (omega arith) refl
    (sends g (omega arith) refl
    then heeds (new_changes (from_to 2 1 3 0 1) (with_proposal 1) refl)
    then passes g (omega arith) refl k))))))

-- and first what is refused
row_refused : {r : Rig (List Message)} → Row (guest_messages ++ crowded_network) (rig at_first [] none 0 0) r
    → Row (refusals ++ guest_messages ++ crowded_network) (rig at_first [] none 0 0) r
row_refused k =
    refuses (inl (refl, refl))
    then refuses (refl, refl)
    then refuses (refl, refl)
    then refuses (inl (refl, omega arith))
    then refuses (inr (inl (refl, (omega arith, refl))))
    then refuses (inl (refl, inl (omega arith)))
    then refuses (inl (refl, inr (omega arith)))
    then refuses (inr (inl (refl, (omega arith, refl), omega arith)))
    then k

pub guest_run : GuestRun
guest_run = record {
  lawful = threshold_laws 3 1 0 (omega arith) (omega arith);
  start = rig at_first [] none 0 0;
  end = _;
  opened = record { stations = λ i. refl; network = (refl, refl); last = refl; posted = refl; missing = refl };
  plays = (row_refused (row_told row_crowded)).run;
  waiting = refl;
  last = refl;
  posted = refl;
  missing = refl;
  prepared = refl;
  proposal = refl;
  committers = refl;
  guest = refl;
}
