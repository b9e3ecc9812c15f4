-- The answer that a processor keeps fits its request.
use Rattle.std.proofs.Common.{◌≡◌, IfSome, IsSome, sym, ap, subst, ℕ, ◌<◌, false, refl, ◌∙◌}
use Rattle.md_word.specs.Clock.{cycle_limit}
use Rattle.z80_chip.specs.Events.{asked_of, handed}
use Rattle.z80_chip.specs.States.{State80, next_of as sub_next_of}
use Rattle.md_word.specs.declared.event.Next.{Next}
use Rattle.z80_parcel.specs.Requests as reported80
use Rattle.m68k_chip.specs.Events.{request_of}
use Rattle.m68k_chip.specs.Validity.{Fits}
use Rattle.m68k_chip.specs.States.{next_of as main_next_of}
use Rattle.md_chips.specs.Laws.{answer-fits, reported-fits}
use Rattle.bus_shared.specs.Board.{Board, IsBoard}
use Rattle.md_chips.specs.Refinement.{renderer_of, main_of, sub_of}
use Rattle.md_chips.specs.Rules.{perform, IsChip, next}
use Rattle.md_chips.specs.Parts.{RendererValue, MainValue, SubValue}
use Rattle.md_chips.specs.declared.chips.Chip.{Chip}
use Rattle.md_chips.specs.declared.chips.Chip.TheVariants.{Main, Sub, Renderer, Fm, Psg}

abbrev MainAnswerFits : MainValue → Type 0
MainAnswerFits c = IfSome c.answer (Fits (request_of c.chip.cart c.chip.state))

pub performed-fits : (before : Chip) (s : Board) → IsBoard s → (c : MainValue) → Main c ≡ (perform before s).chip → IfSome c.answer (Fits (request_of c.chip.cart c.chip.state))
performed-fits (Main b) s ok c is = subst MainAnswerFits (sym (ap main_of is)) (answer-fits s (main_next_of b.chip.state).key (request_of b.chip.cart b.chip.state) ok)
performed-fits (Sub b) s ok c is = cc
performed-fits (Renderer b) s ok c is = cc
performed-fits (Fm b) s ok c is = cc
performed-fits (Psg b) s ok c is = cc

abbrev SubAnswerFits : SubValue → Type 0
SubAnswerFits c = IfSome c.answer (reported80.Fits (asked_of c.chip.cart c.chip.state))

pub performed-reported : (before : Chip) (s : Board) → IsChip before → IsBoard s → (c : SubValue) → Sub c ≡ (perform before s).chip → IfSome c.answer (reported80.Fits (asked_of c.chip.cart c.chip.state))
performed-reported (Main b) s valid ok c is = cc
performed-reported (Sub b) s valid ok c is = subst SubAnswerFits (sym (ap sub_of is)) (reported-fits b s valid ok)
performed-reported (Renderer b) s valid ok c is = cc
performed-reported (Fm b) s valid ok c is = cc
performed-reported (Psg b) s valid ok c is = cc

-- a Z80 that handed something over is at the same access
handed-same : (state : State80) → (sub_next_of (handed state) ≡ sub_next_of state) × ((handed state).next ≡ (sub_next_of state).key.cycle)
unfolding sub_next_of handed
handed-same state = (refl, refl)

pub performed-kind : (before : Chip) (s : Board) (c : SubValue) → Sub c ≡ (perform before s).chip → (next before).sample ≡ false → (sub_next_of c.chip.state).sample ≡ false
performed-kind (Main b) s c is kind = cc
performed-kind (Sub b) s c is kind =
    subst (λ (v : SubValue). (sub_next_of v.chip.state).sample ≡ false) (sym (ap sub_of is)) (ap (λ (n : Next). n.sample) (handed-same b.chip.state).0 ∙ kind)
performed-kind (Renderer b) s c is kind = cc
performed-kind (Fm b) s c is kind = cc
performed-kind (Psg b) s c is kind = cc

pub performed-cycle : (before : Chip) (s : Board) (c : SubValue) → Sub c ≡ (perform before s).chip → (next before).key.cycle < cycle_limit → c.chip.state.next < cycle_limit
performed-cycle (Main b) s c is below = cc
performed-cycle (Sub b) s c is below =
    subst (λ (v : SubValue). v.chip.state.next < cycle_limit) (sym (ap sub_of is)) (subst (λ (n : ℕ). n < cycle_limit) (sym (handed-same b.chip.state).1) below)
performed-cycle (Renderer b) s c is below = cc
performed-cycle (Fm b) s c is below = cc
performed-cycle (Psg b) s c is below = cc

-- the view of a line that was begun is there, at the same line
pub performed-view : (before : Chip) (s : Board) (c : RendererValue) → Renderer c ≡ (perform before s).chip → IsSome c.view
performed-view (Main b) s c is = cc
performed-view (Sub b) s c is = cc
performed-view (Renderer b) s c is = subst (λ (v : RendererValue). IsSome v.view) (sym (ap renderer_of is)) refl
performed-view (Fm b) s c is = cc
performed-view (Psg b) s c is = cc

pub performed-line : (before : Chip) (s : Board) (c : RendererValue) → Renderer c ≡ (perform before s).chip → (next before).key.cycle < cycle_limit → c.chip.next < cycle_limit
performed-line (Main b) s c is below = cc
performed-line (Sub b) s c is below = cc
performed-line (Renderer b) s c is below = subst (λ (v : RendererValue). v.chip.next < cycle_limit) (sym (ap renderer_of is)) below
performed-line (Fm b) s c is below = cc
performed-line (Psg b) s c is below = cc
