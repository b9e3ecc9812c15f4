use Rattle.md_chips.specs.Regions.{most_entries}
use Rattle.std.proofs.Common.{◌≡◌, ◌≤◌, Bool, ℕ, ◌<◌, List, Some, subst, sym, ◌∙◌, ap}
use Rattle.std.specs.Prelude.{vec_capacity}
use Rattle.chip_core.specs.Cores.{CoreValue, chip_in}
use Rattle.md_chips.specs.Assembled.{Assembly, bounds_of}
use Rattle.bus_shared.specs.Board.{Board}
use Rattle.md_chips.specs.Machines.{IsMachine, machine_at}
use Rattle.md_chips.specs.Rules.{IsChip, five}
use Rattle.md_chips.specs.declared.chips.Chip.{Chip}
use Rattle.md_chips.proofs.Assembled.{assembled-machine, assembled-value}
use Rattle.md_machine.proofs.machine.Machine.from_parts.Goals as goal

-- the journal has the room that was asked for
ample : (pal renderer : Bool) (n room : ℕ) → n ≡ most_entries pal → pal ≡ renderer → n ≤ room → most_entries renderer ≤ room
ample pal renderer n room is same enough = subst (λ (b : Bool). most_entries b ≤ room) same (subst (λ (k : ℕ). k ≤ room) is enough)

pub make-core-requires : goal.make-core-requires
make-core-requires c =
    let parts : Assembly = record { at = c.args.at; main = c.args.main; sub = c.args.sub; renderer = c.args.renderer; fm = c.args.fm; psg = c.args.psg } in
    let journal = c.in_ok-journal.ensures {u = tt} in
    let bounds = c.in_ok-bounds.ensures.bounds in
    (assembled-machine parts c.args.shared c.in_ok-chips.chips.items c.in_ok-bounds.bounds.items c.in_ok-journal.journal.items (vec_capacity c.in_ok-journal.journal)
    c.known.ensures (record { main = c.requires.main; sub = c.requires.sub; line = c.requires.line }) c.requires.region
    (c.in_ok-chips.ensures {u = tt}) (bounds ∙ ap bounds_of c.as_slice.ensures.value) journal.items (ample _ _ _ _ c.most_entries.ensures.value c.pal-pal.ensures journal.capacity)
    (subst (λ (chips : List Chip). (i : ℕ) → i < 5 → IsChip (chip_in five chips i)) c.as_slice.ensures.value c.in_ok-bounds.ensures.valid)).valid.shape

pub invariant_of-result : goal.invariant_of-result
invariant_of-result c =
    let parts : Assembly = record { at = c.args.at; main = c.args.main; sub = c.args.sub; renderer = c.args.renderer; fm = c.args.fm; psg = c.args.psg } in
    let journal = c.in_ok-journal.ensures {u = tt} in
    let bounds = c.in_ok-bounds.ensures.bounds in
    subst (λ (v : CoreValue Chip Board). IsMachine c.args.at (Some v)) (sym c.make-core.ensures)
    (assembled-machine parts c.args.shared c.in_ok-chips.chips.items c.in_ok-bounds.bounds.items c.in_ok-journal.journal.items (vec_capacity c.in_ok-journal.journal)
    c.known.ensures (record { main = c.requires.main; sub = c.requires.sub; line = c.requires.line }) c.requires.region
    (c.in_ok-chips.ensures {u = tt}) (bounds ∙ ap bounds_of c.as_slice.ensures.value) journal.items (ample _ _ _ _ c.most_entries.ensures.value c.pal-pal.ensures journal.capacity)
    (subst (λ (chips : List Chip). (i : ℕ) → i < 5 → IsChip (chip_in five chips i)) c.as_slice.ensures.value c.in_ok-bounds.ensures.valid))

pub returns : goal.returns
returns c =
    let parts : Assembly = record { at = c.args.at; main = c.args.main; sub = c.args.sub; renderer = c.args.renderer; fm = c.args.fm; psg = c.args.psg } in
    let journal = c.in_ok-journal.ensures {u = tt} in
    ap (λ (v : CoreValue Chip Board). machine_at c.args.at v) c.make-core.ensures
    ∙ assembled-value parts c.args.shared c.in_ok-chips.chips.items c.in_ok-bounds.bounds.items c.in_ok-journal.journal.items (vec_capacity c.in_ok-journal.journal)
    (c.in_ok-chips.ensures {u = tt}) journal.items
