-- The image of a source holds the bytes of each line.
use Rattle.std.proofs.Common.{◌≡◌, ℕ, ◌+◌, ◌≤◌, List, [], ◌∷◌, length, take, refl, arith}
use Rattle.md_asm_text.specs.Tokens.{tokens}
use Rattle.text_lines.specs.Lines.{lines_of}
use Rattle.md_asm.specs.Numbers.{Names, resolved}
use Rattle.md_asm.specs.Assembly.{Done, assembly, assembly_of, places_of, second}
use Rattle.md_asm.specs.Held.{AreHeld, HoldsLines, IsHeld}
use Rattle.md_asm.specs.Places.{WrittenPlaces, blank, image_limit}
use Rattle.md_asm.specs.Rounds.{Faulty, Filled, Outcome, Read, Refused, Round, Slot, Whole, round_one, round_two, start}
use Rattle.md_asm.specs.declared.placed.Placed.{Placed}
use Rattle.md_asm.proofs.Apart.{AllSlots, IsPut, all_slots_by, read_round}
use Rattle.md_asm.proofs.Filled.{IsFilled, all_filled}
use Rattle.md_asm.proofs.Memory.{take_stands, zeros_long}
use Rattle.md_asm.proofs.Slots.{settled_long}

slot_held : (names : Names) (written : WrittenPlaces) (memory : List ℕ) (end : ℕ) (slot : Slot) → IsPut written end slot → IsFilled memory names slot → IsHeld (take end memory) names slot
slot_held names written memory end slot put is =
    let size : length is.bytes ≡ slot.long = settled_long slot.sub slot.body slot.long (resolved names (tokens slot.text)) slot.address is.bytes is.settled in
    let low = put.low in record {
      bytes = is.bytes;
      settled = is.settled;
      stands = take_stands memory slot.place end is.bytes (omega (arith, size, low)) is.stands;
      addressed = put.addressed;
    }

slots_held : (names : Names) (written : WrittenPlaces) (memory : List ℕ) (end : ℕ) (slots : List Slot) → AllSlots (IsPut written end) slots → AllSlots (IsFilled memory names) slots
    → AreHeld (take end memory) names slots
slots_held names written memory end [] put filled = tt
slots_held names written memory end (slot ∷ more) put filled =
    (slot_held names written memory end slot put.0 filled.0, slots_held names written memory end more put.1 filled.1)

in_room : (written : WrittenPlaces) (end : ℕ) (slots : List Slot) → end ≤ image_limit → AllSlots (IsPut written end) slots → AllSlots (λ s. s.place + s.long ≤ length blank) slots
in_room written end slots low put =
    all_slots_by (IsPut written end) (λ s. s.place + s.long ≤ length blank) (λ s is. let l = is.low in let e = zeros_long image_limit in omega (arith, l, e, low)) slots put

round_held : (source image : List ℕ) (lines : List Placed) (round : Round) (memory : List ℕ) → round_one start 1 (lines_of source) ≡ Read round
    → round_two round.names blank round.slots ≡ Whole memory → take round.end memory ≡ image → lines ≡ places_of round.slots → HoldsLines source image lines
round_held source image lines round memory read whole front places =
    let is = read_round round (lines_of source) read in
    let put = all_filled round.names blank memory round.slots (in_room round.written round.end round.slots is.low is.put) is.apart whole in record {
      round = round;
      read = read;
      places = places;
      held = rw front at (slots_held round.names round.written memory round.end round.slots is.put put.each);
    }

by_memory : (source image : List ℕ) (lines : List Placed) (round : Round) (two : Filled) → round_one start 1 (lines_of source) ≡ Read round
    → round_two round.names blank round.slots ≡ two → assembly_of round two ≡ Done image lines → HoldsLines source image lines
by_memory source image lines round (Whole memory) read whole is =
    let front : take round.end memory ≡ image = cc in
    let places : lines ≡ places_of round.slots = cc in
    round_held source image lines round memory read whole front places
by_memory source image lines round (Faulty line kind) read whole is = cc

by_outcome : (source image : List ℕ) (lines : List Placed) (one : Outcome) → round_one start 1 (lines_of source) ≡ one → second one ≡ Done image lines → HoldsLines source image lines
by_outcome source image lines (Read round) read is = by_memory source image lines round (round_two round.names blank round.slots) read refl is
by_outcome source image lines (Refused line kind) read is = cc

pub lines_held : (source image : List ℕ) (lines : List Placed) → assembly source ≡ Done image lines → HoldsLines source image lines
unfolding assembly
lines_held source image lines is = by_outcome source image lines (round_one start 1 (lines_of source)) refl is
