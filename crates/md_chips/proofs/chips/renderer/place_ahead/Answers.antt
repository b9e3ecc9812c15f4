use Rattle.std.proofs.Common.{◌≡◌, ◌∙◌, ap, refl, ℕ, Bool}
use Rattle.md_word.specs.declared.event.Next.{Next}
use Rattle.vdp_time.specs.Lines.{line_of}
use Rattle.vdp_sprites.specs.Lines.{note_on, sprites_on}
use Rattle.vdp_ahead.specs.Lines.{scanline_on}
use Rattle.md_chips.specs.LineLaws.{placed_drawn}
use Rattle.md_chips.proofs.chips.renderer.place_ahead.Goals as goal

pub returns-clause-drawn : goal.returns-clause-drawn
returns-clause-drawn c =
    let chip = c.args.chip.now in
    let view = c.args.line_buffer.now.view in
    let number : c.line_of-line.result ≡ line_of chip.next chip.pal =
    c.line_of-line.ensures.value ∙ ap (λ (n : Next). line_of n.key.cycle c.pal.result) c.next.ensures.value ∙ ap (λ (pal : Bool). line_of chip.next pal) c.pal.ensures in
    λ yes.
    placed_drawn view c.note.result chip c.place_line.new.self c.requires.view (c.if-not-has.ensures.region refl ∙ c.pal-2.ensures)
    (c.note.ensures ∙ ap (λ (y : ℕ). note_on y view) number)
    (c.place_line.ensures view (sprites_on (line_of chip.next chip.pal) view) (c.scanline.ensures ∙ ap (λ (y : ℕ). scanline_on y view) number))
