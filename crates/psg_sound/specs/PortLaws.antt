-- What a port keeps where writes come and go.
use Rattle.std.proofs.Common.{◌<◌, Bool, List, length, [], ℕ, ◌≤◌, lit≤, not}
use Rattle.std.specs.Prelude.{filter}
use Rattle.std.proofs.lemmas.List.Elements.{All-filter, All-nil}
use Rattle.md_word.specs.declared.key.Key.{Key}
use Rattle.sound_writes.proofs.Helds.{length-filter-most, length-held_with, All-held_with}
use Rattle.psg_sound.specs.declared.write.PsgWrite.{PsgWrite}
use Rattle.psg_sound.specs.Port.{IsPort, held_with, is_below, left_from, taken_below}

-- some of the writes of a port are those of a port
pub IsPort-filter : (p : PsgWrite → Bool) (writes : List PsgWrite) → IsPort writes → IsPort (filter p writes)
IsPort-filter p writes port = record {
  most = length-filter-most p 1024 writes port.most;
  chips = All-filter p (λ w. w.key.chip < 2) writes port.chips;
}

-- a write by a processor leaves a port
pub IsPort-held_with : (writes : List PsgWrite) (key : Key) (value : ℕ) → key.chip < 2 → IsPort writes → IsPort (held_with writes key value)
IsPort-held_with writes key value chip port =
    let w : PsgWrite = record { key = key; value = value } in
    record {
      most = length-held_with writes w port.most;
      chips = All-held_with (λ v. v.key.chip < 2) writes w port.chips chip;
    }

-- the writes that a batch takes are few
pub taken_below-few : (cycle : ℕ) (held : List PsgWrite) → IsPort held → length (taken_below cycle held) ≤ 1024
taken_below-few cycle held port =
    let rest : IsPort (taken_below cycle held) = IsPort-filter (is_below cycle) held port in
    rest.most

-- the writes that stay are those of a port
pub IsPort-left_from : (cycle : ℕ) (held : List PsgWrite) → IsPort held → IsPort (left_from cycle held)
IsPort-left_from cycle held port = IsPort-filter (λ w. not (is_below cycle w)) held port

-- no write is held at power-on
pub IsPort-nil : IsPort []
IsPort-nil = record { most = lit≤ tt; chips = All-nil (λ (w : PsgWrite). w.key.chip < 2) }
