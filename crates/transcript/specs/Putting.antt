-- Lines that are put into buffers.
use Rattle.std.specs.Prelude.{◌≡◌, ℕ, ◌<◌, ◌≤◌, List, length, Ok, Err, Result}
use Rattle.transcript.specs.Text.{begun_with}
use Rattle.transcript.specs.declared.fault.LineFault.{LineFault}
use Rattle.transcript.specs.declared.fault.LineFault.TheVariants.{Short}

-- A line stands at the beginning of a buffer, and what stood after it stays. It has this length, 32 bytes at most.
abbrev pub LineStands : List ℕ → ℕ → List ℕ → List ℕ → Type 0
LineStands line n buffer buffer' = (buffer' ≡ begun_with line buffer) × (n ≡ length line) × (n ≤ 32)

-- A line is put into a buffer of 32 bytes or more, and its length is answered. A shorter buffer is refused, and stays as
-- it is.
abbrev pub LinePut : List ℕ → List ℕ → List ℕ → Result ℕ LineFault → Type 0
LinePut line buffer buffer' (Ok n) = (32 ≤ length buffer) × LineStands line n buffer buffer'
LinePut line buffer buffer' (Err Short) = (length buffer < 32) × (buffer' ≡ buffer)
