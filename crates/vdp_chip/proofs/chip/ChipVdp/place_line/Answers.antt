use Rattle.std.proofs.Common.{◌≡◌, ◌∙◌, ap, sym, List, ℕ, length, ◌≤◌}
use Rattle.std.specs.Option.{is_some}
use Rattle.vdp_time.specs.Lines.{line_of}
use Rattle.vdp_chip.specs.RendererState.{RendererState}
use Rattle.vdp_chip.specs.Kept.{kept_frame}
use Rattle.vdp_chip.specs.declared.kept.Kept.TheVariants as kinds
use Rattle.md_word.specs.Region.{rows}
use Rattle.vdp_chip.specs.Picture.{cleared, drawn, scanline_of}
use Rattle.vdp_chip.proofs.Scanlines.{length-scanline_of}
use Rattle.vdp_chip.proofs.Lined.{renderer_state_reported, kept_next}
use Rattle.vdp_chip.proofs.chip.ChipVdp.place_line.Goals as goal

pub place-self-inside-requires-clause-scanline : goal.place-self-inside-requires-clause-scanline
place-self-inside-requires-clause-scanline c = ap (λ (bytes : List ℕ). length bytes) c.requires.scanline.2 ∙ length-scanline_of c.requires.scanline.0 c.requires.scanline.1 _

pub invariant_of-self : goal.invariant_of-self
invariant_of-self c =
    let step = c.place-self-inside in
    let chip = c.self.inside in
    let number = c.line_of-line.ensures.value in
    let view = c.requires.scanline.0 in
    let sprites = c.requires.scanline.1 in
    let scanline = c.requires.scanline.2 ∙ ap (λ (d : RendererState). scanline_of view sprites (line_of d.next d.pal)) (sym c.self.view_is) ∙ ap (scanline_of view sprites) (sym number) in
    let free : step.result ≡ kinds.Picture → rows chip.pal ≤ line_of chip.next chip.pal = λ e. (rw number at (step.ensures.free e)) in (
      renderer_state_reported chip.pal view sprites chip.next c.line_of-line.result chip.note c.args.note (is_some chip.view)
          chip.picture.value step.new.picture.value (kept_frame chip.pal chip.kept chip.picture.value chip.aside.value) (kept_frame chip.pal step.result step.new.picture.value step.new.aside.value)
          c.self.invariant.0 number
          (step.ensures.picture ∙ ap (λ (bytes : List ℕ). drawn chip.pal c.line_of-line.result bytes (cleared c.line_of-line.result chip.picture.value)) scanline)
          step.ensures.frame,
      kept_next chip.pal chip.next step.result step.new.aside.value c.self.invariant.0.at_line step.ensures.whole free,
    )
