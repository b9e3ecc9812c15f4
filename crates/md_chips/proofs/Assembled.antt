-- The machine that parts make.
use Rattle.std.proofs.Common.{◌≡◌, ℕ, ◌<◌, ◌≤◌, List, [], false, Some, refl, sym, ap, ◌∙◌, subst, arith}
use Rattle.std.proofs.lemmas.Bool.Decides.{nat_tests}
use Rattle.md_word.specs.Keys.{key_lt}
use Rattle.md_word.specs.declared.event.Entry.{Entry}
use Rattle.md_word.specs.declared.key.Key.{Key}
use Rattle.chip_core.specs.Cores.{bound_in, chip_in, key_in}
use Rattle.m68k_chip.specs.States.{next_of}
use Rattle.z80_chip.specs.States.{next_of as sub_next_of}
use Rattle.bus_shared.specs.Board.{Board, IsBoard}
use Rattle.md_chips.specs.Assembled.{Assembly, assembled, bounds_of, chips_of}
use Rattle.md_chips.specs.Machines.{IsMachine, MachineValue, core_in, machine_at}
use Rattle.md_chips.specs.Media.{no_media}
use Rattle.md_chips.specs.Refinement.{console_of}
use Rattle.md_chips.specs.Regions.{most_entries}
use Rattle.md_chips.specs.Rules.{IsChip, five}
use Rattle.md_chips.specs.Starts.{first_batch}
use Rattle.md_chips.specs.declared.chips.Chip.{Chip}
use Rattle.md_chips.proofs.Moves.{five-each}

pub key-itself : (k : Key) → key_lt k k ≡ false
key-itself k = grind (arith, nat_tests)

not-below : (at : ℕ) → at ≤ first_batch at
not-below at = omega arith

-- no next event of the parts is below their cycle
pub record AreLater (parts : Assembly) : Type 0 where
  pub main : parts.at ≤ (next_of parts.main.state).key.cycle
  pub sub : parts.at ≤ (sub_next_of parts.sub.state).key.cycle
  pub line : parts.at ≤ parts.renderer.next

abbrev core_of : Assembly → Board → List Chip → ℕ → MachineValue
core_of parts board chips room = machine_at parts.at (core_in board chips (bounds_of chips) [] room)

machine-by : (parts : Assembly) (board : Board) (room : ℕ) → IsBoard board → AreLater parts → parts.renderer.pal ≡ board.vdp.pal → most_entries parts.renderer.pal ≤ room
    → ((i : ℕ) → i < 5 → IsChip (chip_in five (chips_of parts) i))
    → IsMachine parts.at (Some (core_in board (chips_of parts) (bounds_of (chips_of parts)) [] room))
unfolding next_of sub_next_of console_of
machine-by parts board room fits later one ample valid =
    let chips = chips_of parts in
    let key : ℕ → Key = key_in five chips in
    record {
      has_core = refl;
      valid = record {
        shape = record {
          chip_count = refl;
          bound_count = refl;
          number = five-each (λ i. (key i).chip ≡ i) refl refl refl refl refl;
          bound_number = five-each (λ i. (bound_in (bounds_of chips) i).chip ≡ i) refl refl refl refl refl;
          under = five-each (λ i. key_lt (key i) (bound_in (bounds_of chips) i) ≡ false)
              (key-itself (key 0)) (key-itself (key 1)) (key-itself (key 2)) (key-itself (key 3)) (key-itself (key 4));
        };
        shared = fits;
        chip = valid;
      };
      region = one;
      room = ample;
      quiet = five-each (λ i. parts.at ≤ (key i).cycle) later.main later.sub later.line (not-below parts.at) (not-below parts.at);
    }

pub assembled-machine : (parts : Assembly) (board : Board) (chips : List Chip) (bounds : List Key) (entries : List Entry) (room : ℕ) → IsBoard board → AreLater parts
    → parts.renderer.pal ≡ board.vdp.pal → chips ≡ chips_of parts → bounds ≡ bounds_of chips → entries ≡ [] → most_entries parts.renderer.pal ≤ room → ((i : ℕ) → i < 5 → IsChip (chip_in five chips i))
    → IsMachine parts.at (Some (core_in board chips bounds entries room))
assembled-machine parts board chips bounds entries room fits later one c b e ample valid =
    subst (λ z. IsMachine parts.at (Some (core_in board chips z entries room))) (sym b)
    (subst (λ z. IsMachine parts.at (Some (core_in board chips (bounds_of chips) z room))) (sym e)
    (subst (λ z. ((i : ℕ) → i < 5 → IsChip (chip_in five z i)) → IsMachine parts.at (Some (core_in board z (bounds_of z) [] room))) (sym c)
    (machine-by parts board room fits later one ample) valid))

value-by : (parts : Assembly) (board : Board) (bounds : List Key) (room : ℕ)
    → machine_at parts.at (core_in board (chips_of parts) bounds [] room) ≡ record { at = parts.at; console = assembled parts board; entries = []; media = no_media }
unfolding console_of
value-by parts board bounds room = refl

pub assembled-value : (parts : Assembly) (board : Board) (chips : List Chip) (bounds : List Key) (entries : List Entry) (room : ℕ)
    → chips ≡ chips_of parts → entries ≡ []
    → machine_at parts.at (core_in board chips bounds entries room) ≡ record { at = parts.at; console = assembled parts board; entries = []; media = no_media }
assembled-value parts board chips bounds entries room c e =
    ap (λ z. machine_at parts.at (core_in board z bounds entries room)) c
    ∙ ap (λ z. machine_at parts.at (core_in board (chips_of parts) bounds z room)) e
    ∙ value-by parts board bounds room
