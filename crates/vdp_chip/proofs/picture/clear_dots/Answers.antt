use Rattle.vdp_chip.proofs.Scanlines.{all_clear, scanline_colours}
use Rattle.vdp_chip.proofs.picture.clear_dots.Goals as goal

pub returns-clause-dots : goal.returns-clause-dots
returns-clause-dots c = all_clear c.new.result (λ i. record { colour = c.new.ensures.colour i; priority = c.new.ensures.priority i })

pub returns-clause-colours : goal.returns-clause-colours
returns-clause-colours c = scanline_colours c.new.result (λ i. record { colour = c.new.ensures.colour i; priority = c.new.ensures.priority i })
