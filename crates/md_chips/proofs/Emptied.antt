-- The machine after its frame, or the samples of a sound chip, were drained.
use Rattle.std.proofs.Common.{◌≡◌, ℕ, ◌<◌, ◌≤◌, ◌==◌, cond, Bool, true, false, [], length, Some, refl, sym, ap, ◌∙◌, arith, subst, lit<, lit≤, eqb-true}
use Rattle.std.proofs.lemmas.Bool.{eqb-false}
use Rattle.std.specs.Prelude.{slice_set}
use Rattle.std.proofs.lemmas.List.{get_or-set_other, get_or-set_same}
use Rattle.md_word.specs.declared.key.Key.{Key}
use Rattle.chip_core.specs.Cores.{CoreValue, IsCore, IsStandIn, chip_in, key_in, machine_of}
use Rattle.chip_core.specs.Machines.{IsQuiet, Machine, put}
use Rattle.md_chips.specs.Drained.{with_emptied, emptied}
use Rattle.md_chips.specs.Lines.{frames_of}
use Rattle.md_chips.specs.Machines.{IsMachine, MachineValue, kept_in, machine_at}
use Rattle.md_chips.specs.Media.{no_media}
use Rattle.bus_shared.specs.Board.{Board, IsBoard}
use Rattle.md_chips.specs.Regions.{IsOneRegion, most_entries}
use Rattle.md_chips.specs.Refinement.{console_of, renderer_of, fm_of, psg_of, record_of}
use Rattle.md_chips.specs.Rules.{IsChip, five, next}
use Rattle.md_chips.specs.declared.chips.Chip.{Chip}
use Rattle.md_chips.specs.declared.chips.Chip.TheVariants.{Main, Sub, Renderer, Fm, Psg}
use Rattle.md_chips.proofs.Segments.{console-alike}

emptied-renderer : (c0 c1 c c3 c4 : Chip) (b : Board) → record_of c0 c1 (emptied c) c3 c4 b ≡ record_of c0 c1 c c3 c4 b
emptied-renderer c0 c1 (Main c) c3 c4 b = refl
emptied-renderer c0 c1 (Sub c) c3 c4 b = refl
emptied-renderer c0 c1 (Renderer c) c3 c4 b = refl
emptied-renderer c0 c1 (Fm c) c3 c4 b = refl
emptied-renderer c0 c1 (Psg c) c3 c4 b = refl

emptied-fm : (c0 c1 c2 c d : Chip) (b : Board) → record_of c0 c1 c2 (emptied c) d b ≡ record_of c0 c1 c2 c d b
emptied-fm c0 c1 c2 (Main c) d b = refl
emptied-fm c0 c1 c2 (Sub c) d b = refl
emptied-fm c0 c1 c2 (Renderer c) d b = refl
emptied-fm c0 c1 c2 (Fm c) d b = refl
emptied-fm c0 c1 c2 (Psg c) d b = refl

emptied-psg : (c0 c1 c2 c3 c : Chip) (b : Board) → record_of c0 c1 c2 c3 (emptied c) b ≡ record_of c0 c1 c2 c3 c b
emptied-psg c0 c1 c2 c3 (Main c) b = refl
emptied-psg c0 c1 c2 c3 (Sub c) b = refl
emptied-psg c0 c1 c2 c3 (Renderer c) b = refl
emptied-psg c0 c1 c2 c3 (Fm c) b = refl
emptied-psg c0 c1 c2 c3 (Psg c) b = refl

emptied-frame : (c : Chip) → frames_of (renderer_of (emptied c)).chip.frame ≡ []
emptied-frame (Main c) = refl
emptied-frame (Sub c) = refl
emptied-frame (Renderer c) = refl
emptied-frame (Fm c) = refl
emptied-frame (Psg c) = refl

emptied-sides : (c : Chip) → (fm_of (emptied c)).samples ≡ []
emptied-sides (Main c) = refl
emptied-sides (Sub c) = refl
emptied-sides (Renderer c) = refl
emptied-sides (Fm c) = refl
emptied-sides (Psg c) = refl

emptied-levels : (c : Chip) → (psg_of (emptied c)).samples ≡ []
emptied-levels (Main c) = refl
emptied-levels (Sub c) = refl
emptied-levels (Renderer c) = refl
emptied-levels (Fm c) = refl
emptied-levels (Psg c) = refl

-- all five emptied: the machine is the same, and keeps nothing
abbrev all_emptied : Machine Chip Board → Machine Chip Board
all_emptied m = record { shared = m.shared; chip = λ i. emptied (m.chip i) }

emptied-main : (c c1 c2 c3 c4 : Chip) (b : Board) → record_of (emptied c) c1 c2 c3 c4 b ≡ record_of c c1 c2 c3 c4 b
emptied-main (Main c) c1 c2 c3 c4 b = refl
emptied-main (Sub c) c1 c2 c3 c4 b = refl
emptied-main (Renderer c) c1 c2 c3 c4 b = refl
emptied-main (Fm c) c1 c2 c3 c4 b = refl
emptied-main (Psg c) c1 c2 c3 c4 b = refl

emptied-sub : (c0 c c2 c3 c4 : Chip) (b : Board) → record_of c0 (emptied c) c2 c3 c4 b ≡ record_of c0 c c2 c3 c4 b
emptied-sub c0 (Main c) c2 c3 c4 b = refl
emptied-sub c0 (Sub c) c2 c3 c4 b = refl
emptied-sub c0 (Renderer c) c2 c3 c4 b = refl
emptied-sub c0 (Fm c) c2 c3 c4 b = refl
emptied-sub c0 (Psg c) c2 c3 c4 b = refl

pub console-emptied : (m : Machine Chip Board) → console_of (all_emptied m) ≡ console_of m
unfolding console_of
console-emptied m =
    let c0 = m.chip 0 in
    let c1 = m.chip 1 in
    let c2 = m.chip 2 in
    let c3 = m.chip 3 in
    let c4 = m.chip 4 in
    emptied-main c0 (emptied c1) (emptied c2) (emptied c3) (emptied c4) m.shared
    ∙ emptied-sub c0 c1 (emptied c2) (emptied c3) (emptied c4) m.shared
    ∙ emptied-renderer c0 c1 c2 (emptied c3) (emptied c4) m.shared
    ∙ emptied-fm c0 c1 c2 c3 (emptied c4) m.shared
    ∙ emptied-psg c0 c1 c2 c3 c4 m.shared

pub kept-emptied : (m : Machine Chip Board) → kept_in (all_emptied m) ≡ no_media
kept-emptied m = λ i. record { frames = emptied-frame (m.chip 2) i; sides = emptied-sides (m.chip 3) i; levels = emptied-levels (m.chip 4) i }

-- the chips after one of them was emptied
with_emptied_by : (b : Bool) (v : CoreValue Chip Board) (j : ℕ) (x : Chip) (i : ℕ) → j < 5 → length v.chips ≡ 5 → x ≡ emptied (chip_in five v.chips j) → (i == j) ≡ b
    → chip_in five (slice_set v.chips j x) i ≡ cond b (emptied (chip_in five v.chips j)) (chip_in five v.chips i)
with_emptied_by true v j x i below long is e =
    ap (chip_in five (slice_set v.chips j x)) (eqb-true i j e) ∙ get_or-set_same v.chips j x five.blank (omega (arith, long, below)) ∙ is
with_emptied_by false v j x i below long is e = get_or-set_other v.chips j i x five.blank (eqb-false i j e)

abbrev emptied_machine : CoreValue Chip Board → ℕ → Machine Chip Board
emptied_machine v j = record { shared = v.shared; chip = put (chip_in five v.chips) j (emptied (chip_in five v.chips j)) }

chips_with_emptied : (v : CoreValue Chip Board) (j : ℕ) (x : Chip) → j < 5 → length v.chips ≡ 5 → x ≡ emptied (chip_in five v.chips j)
    → (i : ℕ) → i < 5 → chip_in five (slice_set v.chips j x) i ≡ (emptied_machine v j).chip i
unfolding put
chips_with_emptied v j x below long is i within = with_emptied_by (i == j) v j x i below long is refl

-- the machine, with what its chips keep
drained : (at : ℕ) (v : CoreValue Chip Board) (j : ℕ) (x : Chip) → j < 5 → length v.chips ≡ 5 → x ≡ emptied (chip_in five v.chips j)
    → machine_at at (record v { chips = slice_set v.chips j x })
    ≡ record { at = at; console = console_of (emptied_machine v j); entries = v.journal; media = kept_in (emptied_machine v j) }
drained at v j x below long is =
    let chips : (i : ℕ) → i < 5 → chip_in five (slice_set v.chips j x) i ≡ (emptied_machine v j).chip i = chips_with_emptied v j x below long is in
    let same : console_of (machine_of five (record v { chips = slice_set v.chips j x })) ≡ console_of (emptied_machine v j) =
    console-alike (machine_of five (record v { chips = slice_set v.chips j x })) (emptied_machine v j) refl chips in
    λ i. record {
      at = at;
      console = same i;
      entries = v.journal;
      media = record {
        frames = frames_of (renderer_of (chips 2 (lit< tt) i)).chip.frame;
        sides = (fm_of (chips 3 (lit< tt) i)).samples;
        levels = (psg_of (chips 4 (lit< tt) i)).samples;
      };
    }

-- the drawing half without its frame
drained-renderer : (at : ℕ) (v : CoreValue Chip Board) (x : Chip) → length v.chips ≡ 5 → x ≡ emptied (chip_in five v.chips 2)
    → machine_at at (record v { chips = slice_set v.chips 2 x }) ≡ record (machine_at at v) { media = record (machine_at at v).media { frames = [] } }
unfolding console_of put
drained-renderer at v x long is =
    let old : Machine Chip Board = machine_of five v in
    drained at v 2 x (lit< tt) long is
    ∙ (λ i. record (machine_at at v) {
      console = emptied-renderer (old.chip 0) (old.chip 1) (old.chip 2) (old.chip 3) (old.chip 4) v.shared i;
      media = record (machine_at at v).media { frames = emptied-frame (old.chip 2) i };
    })

-- the FM synthesis without its samples
drained-fm : (at : ℕ) (v : CoreValue Chip Board) (x : Chip) → length v.chips ≡ 5 → x ≡ emptied (chip_in five v.chips 3)
    → machine_at at (record v { chips = slice_set v.chips 3 x }) ≡ record (machine_at at v) { media = record (machine_at at v).media { sides = [] } }
unfolding console_of put
drained-fm at v x long is =
    let old : Machine Chip Board = machine_of five v in
    drained at v 3 x (lit< tt) long is
    ∙ (λ i. record (machine_at at v) {
      console = emptied-fm (old.chip 0) (old.chip 1) (old.chip 2) (old.chip 3) (old.chip 4) v.shared i;
      media = record (machine_at at v).media { sides = emptied-sides (old.chip 3) i };
    })

-- the PSG without its samples
drained-psg : (at : ℕ) (v : CoreValue Chip Board) (x : Chip) → length v.chips ≡ 5 → x ≡ emptied (chip_in five v.chips 4)
    → machine_at at (record v { chips = slice_set v.chips 4 x }) ≡ record (machine_at at v) { media = record (machine_at at v).media { levels = [] } }
unfolding console_of put
drained-psg at v x long is =
    let old : Machine Chip Board = machine_of five v in
    drained at v 4 x (lit< tt) long is
    ∙ (λ i. record (machine_at at v) {
      console = emptied-psg (old.chip 0) (old.chip 1) (old.chip 2) (old.chip 3) (old.chip 4) v.shared i;
      media = record (machine_at at v).media { levels = emptied-levels (old.chip 4) i };
    })

-- a chip that was emptied stands in for the one that it was
pub emptied-key : (c : Chip) → (next (emptied c)).key ≡ (next c).key
emptied-key (Main c) = refl
emptied-key (Sub c) = refl
emptied-key (Renderer c) = refl
emptied-key (Fm c) = refl
emptied-key (Psg c) = refl

pub emptied-ok : (c : Chip) → IsChip c → IsChip (emptied c)
emptied-ok (Main c) ok = ok
emptied-ok (Sub c) ok = ok
emptied-ok (Renderer c) ok = record { chip = record { picture = ok.chip.picture; frame = tt; at_line = ok.chip.at_line; undrawn = ok.chip.undrawn }; view = ok.view }
emptied-ok (Fm c) ok = record { taken = ok.taken; samples = lit≤ tt }
emptied-ok (Psg c) ok = record { synth = ok.synth; taken = ok.taken; samples = lit≤ tt }

pub emptied-stands : (c d : Chip) → IsChip c → d ≡ emptied c → IsStandIn five IsChip c d
emptied-stands c d ok is = record { key = ap (λ (x : Chip). (next x).key) is ∙ emptied-key c; ok = subst IsChip (sym is) (emptied-ok c ok) }

-- no event moves by it
key-with_emptied : (b : Bool) (v : CoreValue Chip Board) (j i : ℕ) → j < 5 → length v.chips ≡ 5 → (i == j) ≡ b → key_in five (with_emptied v j).chips i ≡ key_in five v.chips i
key-with_emptied true v j i below long e =
    ap (key_in five (with_emptied v j).chips) (eqb-true i j e)
    ∙ ap (λ (x : Chip). (next x).key) (get_or-set_same v.chips j (emptied (chip_in five v.chips j)) five.blank (omega (arith, long, below)))
    ∙ emptied-key (chip_in five v.chips j) ∙ ap (key_in five v.chips) (sym (eqb-true i j e))
key-with_emptied false v j i below long e =
    ap (λ (x : Chip). (next x).key) (get_or-set_other v.chips j i (emptied (chip_in five v.chips j)) five.blank (eqb-false i j e))

quiet-with_emptied : (v : CoreValue Chip Board) (at j : ℕ) → j < 5 → length v.chips ≡ 5 → IsQuiet five (machine_of five v) at → IsQuiet five (machine_of five (with_emptied v j)) at
quiet-with_emptied v at j below long quiet i within = subst (λ (k : Key). at ≤ k.cycle) (sym (key-with_emptied (i == j) v j i below long refl)) (quiet i within)

emptied-pal : (c : Chip) → (renderer_of (emptied c)).chip.pal ≡ (renderer_of c).chip.pal
emptied-pal (Main c) = refl
emptied-pal (Sub c) = refl
emptied-pal (Renderer c) = refl
emptied-pal (Fm c) = refl
emptied-pal (Psg c) = refl

pal-by : (b : Bool) (v : CoreValue Chip Board) (j : ℕ) → j < 5 → length v.chips ≡ 5 → (2 == j) ≡ b
    → (renderer_of (chip_in five (with_emptied v j).chips 2)).chip.pal ≡ (renderer_of (chip_in five v.chips 2)).chip.pal
pal-by true v j below long e =
    ap (λ (c : Chip). (renderer_of c).chip.pal) (with_emptied_by true v j (emptied (chip_in five v.chips j)) 2 below long refl e)
    ∙ emptied-pal (chip_in five v.chips j) ∙ ap (λ (k : ℕ). (renderer_of (chip_in five v.chips k)).chip.pal) (sym (eqb-true 2 j e))
pal-by false v j below long e = ap (λ (c : Chip). (renderer_of c).chip.pal) (with_emptied_by false v j (emptied (chip_in five v.chips j)) 2 below long refl e)

-- the region stays
pal-with_emptied : (v : CoreValue Chip Board) (j : ℕ) → j < 5 → length v.chips ≡ 5 → (console_of (machine_of five (with_emptied v j))).pal ≡ (console_of (machine_of five v)).pal
unfolding console_of
pal-with_emptied v j below long = pal-by (2 == j) v j below long refl

one-with_emptied : (v : CoreValue Chip Board) (j : ℕ) → j < 5 → length v.chips ≡ 5 → IsOneRegion (console_of (machine_of five v)) → IsOneRegion (console_of (machine_of five (with_emptied v j)))
unfolding console_of
one-with_emptied v j below long one = pal-by (2 == j) v j below long refl ∙ one

pub machine-with_emptied : (v w : CoreValue Chip Board) (at j : ℕ) → j < 5 → IsMachine at (Some v) → w ≡ with_emptied v j → IsCore five IsChip IsBoard w → IsMachine at (Some w)
machine-with_emptied v w at j below has is valid = record {
  has_core = refl;
  valid = valid;
  region = subst (λ (u : CoreValue Chip Board). IsOneRegion (console_of (machine_of five u))) (sym is) (one-with_emptied v j below has.valid.shape.chip_count has.region);
  room = subst (λ (u : CoreValue Chip Board). most_entries (console_of (machine_of five u)).pal ≤ u.room) (sym is)
      (subst (λ (pal : Bool). most_entries pal ≤ v.room) (sym (pal-with_emptied v j below has.valid.shape.chip_count)) has.room);
  quiet = subst (λ (u : CoreValue Chip Board). IsQuiet five (machine_of five u) at) (sym is) (quiet-with_emptied v at j below has.valid.shape.chip_count has.quiet);
}

-- a machine whose core was emptied at a place
abbrev pub IsEmptied : ℕ → MachineValue → MachineValue → Type 0
IsEmptied j old new = (core : CoreValue Chip Board) × (machine_at old.at core ≡ old) × IsCore five IsChip IsBoard core × (new ≡ machine_at old.at (with_emptied core j))

pub with_emptied-renderer : (old new : MachineValue) → IsEmptied 2 old new → new ≡ record old { media = record old.media { frames = [] } }
with_emptied-renderer old new (core, same, is, made) =
    made ∙ drained-renderer old.at core (emptied (chip_in five core.chips 2)) is.shape.chip_count refl
    ∙ ap (λ (v : MachineValue). record v { media = record v.media { frames = [] } }) same

pub with_emptied-fm : (old new : MachineValue) → IsEmptied 3 old new → new ≡ record old { media = record old.media { sides = [] } }
with_emptied-fm old new (core, same, is, made) =
    made ∙ drained-fm old.at core (emptied (chip_in five core.chips 3)) is.shape.chip_count refl
    ∙ ap (λ (v : MachineValue). record v { media = record v.media { sides = [] } }) same

pub with_emptied-psg : (old new : MachineValue) → IsEmptied 4 old new → new ≡ record old { media = record old.media { levels = [] } }
with_emptied-psg old new (core, same, is, made) =
    made ∙ drained-psg old.at core (emptied (chip_in five core.chips 4)) is.shape.chip_count refl
    ∙ ap (λ (v : MachineValue). record v { media = record v.media { levels = [] } }) same
