-- The VDP, and its drawing half, as lists of numbers, and back.
use Rattle.std.specs.Prelude.{refl}
use Rattle.md_word.specs.Coding.{Way, both, by_way, flag, many, maybe, number}
use Rattle.vdp_ports.specs.Vdp.{Vdp}
use Rattle.vdp_planes.specs.declared.view.LineView.{LineView}
use Rattle.vdp_planes.specs.declared.view.SpriteNote.{SpriteNote}
use Rattle.vdp_chip.specs.RendererState.{RendererState}
use Rattle.md_chips.specs.Parts.{RendererValue}

-- the way of the VDP
abbrev pub vdp_way : Way Vdp
vdp_way =
    by_way
    (both (both (both (many number) (many number)) (both (many number) (many number)))
    (both (both (both flag number) (both number flag))
    (both (both (both number number) (both number number)) (both (both number number) (both (both (both flag flag) (both flag flag)) (both number (both number (both number (both flag flag)))))))))
    (λ v. (((v.registers, v.vram), (v.cram, v.vsram)), (((v.pending, v.code), (v.a, v.armed)), (((v.dma_kind, v.byte), (v.source, v.address)), ((v.left, v.next_stamp), (((v.vertical, v.horizontal), (v.overflow, v.collision)), (v.line_counter, (v.int_from, (v.int_to, (v.pal, v.tall))))))))))
    (λ p. record {
      registers = p.0.0.0;
      vram = p.0.0.1;
      cram = p.0.1.0;
      vsram = p.0.1.1;
      pending = p.1.0.0.0;
      code = p.1.0.0.1;
      a = p.1.0.1.0;
      armed = p.1.0.1.1;
      dma_kind = p.1.1.0.0.0;
      byte = p.1.1.0.0.1;
      source = p.1.1.0.1.0;
      address = p.1.1.0.1.1;
      left = p.1.1.1.0.0;
      next_stamp = p.1.1.1.0.1;
      vertical = p.1.1.1.1.0.0.0;
      horizontal = p.1.1.1.1.0.0.1;
      overflow = p.1.1.1.1.0.1.0;
      collision = p.1.1.1.1.0.1.1;
      line_counter = p.1.1.1.1.1.0;
      int_from = p.1.1.1.1.1.1.0;
      int_to = p.1.1.1.1.1.1.1.0;
      pal = p.1.1.1.1.1.1.1.1.0;
      tall = p.1.1.1.1.1.1.1.1.1;
    })
    (λ v. refl)

-- the way of what sprites have set
abbrev pub note_way : Way SpriteNote
note_way = by_way (both flag flag) (λ n. (n.overflow, n.collision)) (λ p. record { overflow = p.0; collision = p.1 }) (λ n. refl)

-- the way of a view
abbrev pub view_way : Way LineView
view_way =
    by_way (both (both (many number) (many number)) (both (both (many number) (many number)) (both flag flag)))
    (λ v. ((v.registers, v.vram), ((v.cram, v.vsram), (v.pal, v.tall))))
    (λ p. record { registers = p.0.0; vram = p.0.1; cram = p.1.0.0; vsram = p.1.0.1; pal = p.1.1.0; tall = p.1.1.1 }) (λ v. refl)

-- the way of the drawing half
abbrev pub renderer_state_way : Way RendererState
renderer_state_way =
    by_way (both (both number note_way) (both (both flag flag) (both (many number) (maybe (many number)))))
    (λ d. ((d.next, d.note), ((d.has_view, d.pal), (d.picture, d.frame))))
    (λ p. record { next = p.0.0; note = p.0.1; has_view = p.1.0.0; picture = p.1.1.0; frame = p.1.1.1; pal = p.1.0.1 }) (λ d. refl)

-- the way of the drawing half with the view that was filled for it
abbrev pub renderer_way : Way RendererValue
renderer_way = by_way (both renderer_state_way (maybe view_way)) (λ c. (c.chip, c.view)) (λ p. record { chip = p.0; view = p.1 }) (λ c. refl)
