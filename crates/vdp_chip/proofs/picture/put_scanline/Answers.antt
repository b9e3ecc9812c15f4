use Rattle.std.proofs.Common.{◌∙◌, ℕ, ◌+◌, ◌-◌, ◌*◌, ap, List, arith}
use Rattle.md_word.specs.Region.{scanline_length}
use Rattle.vdp_chip.specs.Picture.{with_scanline}
use Rattle.vdp_chip.proofs.Scanlines.{scanline_put}
use Rattle.vdp_chip.proofs.picture.put_scanline.Goals as goal

pub returns : goal.returns
returns c =
    let y = c.args.line in
    scanline_put y (y * scanline_length + scanline_length - y * scanline_length) c.args.picture.now c.copy_from_slice.new.self (omega arith) ∙ ap (λ (bytes : List ℕ). with_scanline y bytes c.args.picture.now) c.copy_from_slice.ensures.after
