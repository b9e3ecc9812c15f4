-- What buffers hold, and their rooms.
use Rattle.std.specs.Prelude.{◌≡◌, ℕ, List, map, Some, slice_get}
use Rattle.md_outer.specs.declared.buffer.Buffer.{Buffer}

-- each of these buffers has this room
abbrev pub HaveRoom : ℕ → List Buffer → Type 0
HaveRoom room buffers = (number : ℕ) (buffer : Buffer) → slice_get buffers number ≡ Some buffer → buffer.room ≡ room

-- the bytes of each buffer
abbrev pub bytes_in : List Buffer → List (List ℕ)
bytes_in buffers = map (λ buffer. buffer.bytes.items) buffers
