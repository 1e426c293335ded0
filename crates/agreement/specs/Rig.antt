-- The rig: n stations and the network that carries their messages; what each call does, and runs of calls.
use Rattle.std.specs.Prelude.{◌≡◌, ℕ, zero, suc, ◌+◌, ◌<◌, ◌≤◌, min, Bool, true, false, if◌then◌else◌, ◌&&◌, ◌⊎◌, List, [], ◌∷◌, Some as some, None as none, Option, ◌≢◌}
use Rattle.agreement.specs.Sets.{Set}
use Rattle.agreement.specs.declared.message.Message.{Message}
use Rattle.agreement.specs.Messages.{Payload, message}
use Rattle.agreement.specs.Networks.{Network, Clears, Enters, Exits}
use Rattle.agreement.specs.Station.{Setting, size, stages, Own, Guest, is_own, Station, fresh_station, after_message}
use Rattle.agreement.specs.Station.{Act, Idle, Due, after_act, speech}

-- A rig, over a network whose states are N.
pub record Rig (N : Type 0) : Type 0 where
  pub station : ℕ → Station  -- its stations
  pub network : N  -- the state of its network
  pub last : Option Message  -- the message delivered last
  pub posted : ℕ  -- how many messages turns handed to the network
  pub missing : ℕ  -- how many from own to own stations were turned away in a turn or lost

-- The calls.
pub data Call : Type 0 where
  turn : ℕ → Call  -- of a station
  deliver lose : ℕ → Call  -- the message that the network picks by a hint
  send : Message → Call  -- a guest's message
  repeat : Call  -- to post the message delivered last again

-- The answers.
pub data Answer : Type 0 where
  acted : ℕ → Act → Answer  -- what the station did in its turn
  delivered : Message → Bool → Answer  -- and whether the addressee's record changed
  sent : Answer  -- the guest's message waits
  lost repeated : Message → Answer  -- which message it was
  refused : ℕ → Answer  -- the refusal's number

-- Station i alone changes, into s.
abbrev pub Changes : ℕ → Station → (ℕ → Station) → (ℕ → Station) → Type 0
Changes i s W W' = (W' i ≡ s) × ((k : ℕ) → (k ≡ i) ⊎ (W' k ≡ W k))

-- The count of missing messages stops at the largest number of 32 bits.
abbrev pub capped_count : ℕ → ℕ
capped_count m = min 4294967295 m

-- A message's addressee, with n stations and stages up to an end, once the message came to it: one that is not in a set, the
-- own stations, does not change.
abbrev pub reached : Set → ℕ → ℕ → Message → Station → Station
reached own n end m s = if own m.addressee then after_message n end m s else s

-- A message's addressee, once it is delivered: a message to a guest changes nothing.
abbrev pub addressee_after : Setting → Message → Station → Station
addressee_after g m s = reached (is_own g) (size g.rules) (stages g.rules) m s

-- Nothing changes but the network and what is missing.
abbrev pub Stays : {N : Type 0} → Rig N → Rig N → Type 0
Stays r r' = ((k : ℕ) → r'.station k ≡ r.station k) × (r'.last ≡ r.last) × (r'.posted ≡ r.posted)

module _ {N : Type 0} (net : Network N) where
  -- A rig as it is opened over a network in state w, which is cleared. A bit entered for a guest, or for a station that
  -- there is not, has no effect.
  pub record Opened (g : Setting) (w : N) (r : Rig N) : Type 0 where
    pub stations : (i : ℕ) → r.station i ≡ fresh_station (is_own g i && g.opens i)
    pub network : Clears net w r.network
    pub last : r.last ≡ none
    pub posted : r.posted ≡ 0
    pub missing : r.missing ≡ 0

  -- Station i says p to the stations below k, in ascending order, and that leads the network from state w to w'. Each
  -- message enters it or is turned away; of those to a set of stations, the own ones, so many are turned away.
  abbrev pub Says : Set → ℕ → Payload → ℕ → N → N → ℕ → Type 0
  Says own i p zero w w' away = (w' ≡ w) × (away ≡ 0)
  Says own i p (suc k) w w' away =
      (v : N) × (before : ℕ) × Says own i p k w v before
      × ((Enters net (message i k p) v w' × (away ≡ before))
      ⊎ ((net.turns_away v (message i k p) ≡ true) × (w' ≡ v) × (away ≡ before + (if own k then 1 else 0))))

  -- What a turn of station i posts: nothing, or what it says to each station.
  abbrev pub Broadcasts : Setting → ℕ → Option Payload → Rig N → Rig N → Type 0
  Broadcasts g i none r r' = (r'.network ≡ r.network) × (r'.posted ≡ r.posted) × (r'.missing ≡ r.missing)
  Broadcasts g i (some p) r r' =
      (away : ℕ) × Says (is_own g) i p (size g.rules) r.network r'.network away
      × (r'.posted ≡ r.posted + size g.rules)
      × (r'.missing ≡ capped_count (r.missing + away))

  -- Station i does act a.
  pub record Acted (g : Setting) (i : ℕ) (a : Act) (r r' : Rig N) : Type 0 where
    pub by_own : Own g i
    pub due : Due g.rules (r.station i) a
    pub stations : Changes i (after_act g.rules a (r.station i)) r.station r'.station
    pub posts : Broadcasts g i (speech a (r.station i)) r r'
    pub last : r'.last ≡ r.last

  -- By a hint message m is taken off and goes to its addressee; change says whether that one is in another state than
  -- before.
  pub record Delivered (g : Setting) (h : ℕ) (m : Message) (change : Bool) (r r' : Rig N) : Type 0 where
    pub exits : Exits net h m r.network r'.network
    pub stations : Changes m.addressee (addressee_after g m (r.station m.addressee)) r.station r'.station
    pub changed : change ≡ true → r'.station m.addressee ≢ r.station m.addressee
    pub unchanged : change ≡ false → r'.station m.addressee ≡ r.station m.addressee
    pub last : r'.last ≡ some m
    pub counts : (r'.posted ≡ r.posted) × (r'.missing ≡ r.missing)

  -- By a hint message m is taken off and gone; it is missing where it went from an own station to an own one.
  abbrev pub Lost : Setting → ℕ → Message → Rig N → Rig N → Type 0
  Lost g h m r r' =
      Exits net h m r.network r'.network × Stays r r'
      × (r'.missing ≡ capped_count (r.missing + (if is_own g m.sender && is_own g m.addressee then 1 else 0)))

  -- Message m is posted, and not in a turn.
  abbrev pub Accepted : Message → Rig N → Rig N → Type 0
  Accepted m r r' = Enters net m r.network r'.network × Stays r r' × (r'.missing ≡ r.missing)

  -- The number with which a call is refused: that of its first fault, so the cases of a call exclude each other.
  abbrev pub Refused : Setting → Call → ℕ → Rig N → Type 0
  Refused g (turn i) k r =
      ((k ≡ 11) × (size g.rules ≤ i)) ⊎ (((k ≡ 12) × Guest g i) ⊎ ((k ≡ 13) × Own g i × Idle g.rules (r.station i)))
  Refused g (deliver h) k r = (k ≡ 14) × (net.waiting r.network ≡ [])
  Refused g (lose h) k r = (k ≡ 14) × (net.waiting r.network ≡ [])
  Refused g (send m) k r =
      ((k ≡ 11) × ((size g.rules ≤ m.sender) ⊎ (size g.rules ≤ m.addressee)))
      ⊎ (((k ≡ 15) × Own g m.sender × (m.addressee < size g.rules))
      ⊎ ((k ≡ 16) × Guest g m.sender × (m.addressee < size g.rules) × (net.turns_away r.network m ≡ true)))
  Refused g repeat k r =
      ((k ≡ 17) × (r.last ≡ none))
      ⊎ ((k ≡ 16) × ((m : Message) × (r.last ≡ some m) × (net.turns_away r.network m ≡ true)))

  -- What a call does, by its answer.
  abbrev pub Step : Setting → Call → Answer → Rig N → Rig N → Type 0
  Step g c (acted i a) r r' = (c ≡ turn i) × Acted g i a r r'
  Step g c (delivered m change) r r' = (h : ℕ) × (c ≡ deliver h) × Delivered g h m change r r'
  Step g c sent r r' = (m : Message) × (c ≡ send m) × Guest g m.sender × (m.addressee < size g.rules) × Accepted m r r'
  Step g c (lost m) r r' = (h : ℕ) × (c ≡ lose h) × Lost g h m r r'
  Step g c (repeated m) r r' = (c ≡ repeat) × (r.last ≡ some m) × Accepted m r r'
  Step g c (refused k) r r' = Refused g c k r × (r' ≡ r)

  -- Calls in a row, each on the rig that the one before left, with their answers.
  abbrev pub Plays : Setting → List Call → List Answer → Rig N → Rig N → Type 0
  Plays g [] [] r r' = r' ≡ r
  Plays g [] (a ∷ answers) r r' = ⊥
  Plays g (c ∷ calls) [] r r' = ⊥
  Plays g (c ∷ calls) (a ∷ answers) r r' = (q : Rig N) × Step g c a r q × Plays g calls answers q r'
