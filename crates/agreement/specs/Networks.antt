-- Networks, by the states that they go through.
use Rattle.std.specs.Prelude.{◌≡◌, ℕ, Bool, true, false, ◌⊎◌, List, [], ◌∷◌, Some as some, Option}
use Rattle.agreement.specs.declared.message.Message.{Message}
use Rattle.agreement.specs.Messages.{Same}

-- A network whose states are N.
pub record Network (N : Type 0) : Type 0 where
  pub waiting : N → List Message  -- what waits, each message as often as it waits
  pub turns_away : N → Message → Bool  -- whether it turns a message away
  pub picks : N → ℕ → Option Message  -- which message a take picks by a hint; none where nothing waits
  pub cleared : N → N  -- the state that a clear leaves
  pub posted : N → Message → N  -- the state that a post leaves that is not turned away
  pub taken : N → ℕ → N  -- the state that a take leaves

module _ {N : Type 0} (net : Network N) where
  -- A clear leads from state w to w', in which nothing waits.
  abbrev pub Clears : N → N → Type 0
  Clears w w' = (w' ≡ net.cleared w) × (net.waiting w' ≡ [])

  -- Message m is not turned away, and its post leads from state w to w': it waits once more.
  abbrev pub Enters : Message → N → N → Type 0
  Enters m w w' = (net.turns_away w m ≡ false) × (w' ≡ net.posted w m) × Same (net.waiting w') (m ∷ net.waiting w)

  -- A take by a hint picks message m, and leads from state w to w': it waits once less.
  abbrev pub Exits : ℕ → Message → N → N → Type 0
  Exits h m w w' = (net.picks w h ≡ some m) × (w' ≡ net.taken w h) × Same (net.waiting w) (m ∷ net.waiting w')

  -- In each state that passes a test, a clear leaves nothing waiting, whatever the network does not turn away enters it, and
  -- by each hint something exits, if anything waits; and the states that follow pass too.
  pub record Carries (fit : N → Bool) : Type 0 where
    pub clears : (w : N) → fit w ≡ true → Clears w (net.cleared w) × (fit (net.cleared w) ≡ true)
    pub posts :
        (w : N) (m : Message) → fit w ≡ true → net.turns_away w m ≡ false
        → Enters m w (net.posted w m) × (fit (net.posted w m) ≡ true)
    pub takes :
        (w : N) (h : ℕ) → fit w ≡ true
        → (net.waiting w ≡ []) ⊎ ((m : Message) × Exits h m w (net.taken w h) × (fit (net.taken w h) ≡ true))
