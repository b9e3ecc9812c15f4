-- The port that holds writes until the synthesis takes them.
use Rattle.std.specs.Prelude.{ℕ, ◌<◌, ◌≤◌, Bool, List, length, All}
use Rattle.md_word.specs.declared.key.Key.{Key}
use Rattle.sound_writes.specs.Held as held
use Rattle.sound_writes.specs.Order as order
use Rattle.psg_sound.specs.declared.write.PsgWrite.{PsgWrite}
use Rattle.psg_sound.specs.Stamp.{stamp_of}

-- what holds of each port: at most 1,024 writes, all by the two processors
pub record IsPort (writes : List PsgWrite) : Type 0 where
  pub most : length writes ≤ 1024
  pub chips : All (λ w. w.key.chip < 2) writes

-- a write goes after those that are held, and is lost where the port is full
abbrev pub held_with : List PsgWrite → Key → ℕ → List PsgWrite
held_with writes key value = held.held_with writes (record { key = key; value = value })

-- whether a write is stamped below a cycle
abbrev pub is_below : ℕ → PsgWrite → Bool
is_below cycle w = order.is_below stamp_of cycle w

-- the writes stamped below a cycle, and those that stay, each in their order
abbrev pub taken_below : ℕ → List PsgWrite → List PsgWrite
taken_below cycle writes = held.taken_below stamp_of cycle writes

-- the writes that are stamped at the cycle or later
abbrev pub left_from : ℕ → List PsgWrite → List PsgWrite
left_from cycle writes = held.left_from stamp_of cycle writes
