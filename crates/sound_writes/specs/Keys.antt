-- The keys of the writes that a port holds at a cycle, which a saved state keeps. This project's profile.
use Rattle.std.specs.Prelude.{ℕ, ◌+◌, ◌-◌, ◌*◌, ◌/◌, ◌^◌, ◌==◌, nat_le, nat_lt, min, max, Bool, true, ◌&&◌, if◌then◌else◌, List, [], ◌∷◌}
use Rattle.std.specs.List.{list_all}
use Rattle.md_word.specs.Clock.{batch as batch_length, main_gap, sub_gap}
use Rattle.md_word.specs.Keys.{key_lt}
use Rattle.md_word.specs.declared.key.Key.{Key}
use Rattle.sound_writes.specs.declared.earliest.Earliest.{Earliest}

-- the last batch before a cycle: one is at each multiple of 16,128 cycles
abbrev pub last_batch : ℕ → ℕ
last_batch at = (at - 1) / batch_length * batch_length

-- a processor's writes are so many cycles apart, at least: the 68000's 28, the Z80's 45
abbrev pub gap : ℕ → ℕ
gap chip = if chip == 0 then main_gap else sub_gap

-- a write of one of the two processors, from the last batch before a cycle on and below the cycle
abbrev pub is_kept : ℕ → Key → Bool
is_kept at key = nat_lt key.chip 2 && (nat_le (last_batch at) key.cycle && nat_lt key.cycle at)

-- a key above another, and where they are of one processor apart by its gap
abbrev pub is_following : Key → Key → Bool
is_following earlier later =
    key_lt earlier later && (if earlier.chip == later.chip then nat_le (earlier.cycle + gap earlier.chip) later.cycle else true)

-- each key is after all that are before it
abbrev pub are_spaced : List Key → Bool
are_spaced [] = true
are_spaced (key ∷ rest) = list_all (is_following key) rest && are_spaced rest

-- the keys of the writes that a port holds at a cycle, in their order
abbrev pub are_kept : ℕ → List Key → Bool
are_kept at keys = list_all (is_kept at) keys && are_spaced keys

-- a write is its processor's gap before the next event of that processor, at least
abbrev pub is_before_next : ℕ → ℕ → Key → Bool
is_before_next main sub key = nat_le (key.cycle + gap key.chip) (if key.chip == 0 then main else sub)

-- ---- the same key by key

-- where no write was looked at
abbrev pub following_batch : ℕ → Earliest
following_batch at = record { main = last_batch at; sub = last_batch at }

-- whether the next write can have this key, below a cycle
abbrev pub fits : ℕ → Earliest → Key → Bool
fits at e key =
    nat_lt key.chip 2 && (nat_le (if key.chip == 0 then e.main else e.sub) key.cycle && nat_lt key.cycle at)

-- so many cycles after a cycle, up to the last that there can be
abbrev pub later : ℕ → ℕ → ℕ
later cycle more = min (2 ^ 64 - 1) (cycle + more)

-- after a write with this key
abbrev pub after : Key → Earliest → Earliest
after key e =
    if key.chip == 0 then record { main = later key.cycle main_gap; sub = max e.sub key.cycle }
    else record { main = max e.main (later key.cycle 1); sub = later key.cycle sub_gap }

-- whether the next writes can have these keys
unfoldable pub all_fit : ℕ → Earliest → List Key → Bool
all_fit at e [] = true
all_fit at e (key ∷ rest) = fits at e key && all_fit at (after key e) rest
