-- What no move changes: the cartridge.
use Rattle.std.proofs.Common.{◌≡◌, ℕ, zero, suc, ◌<◌, cond, Bool, true, false, List, refl, ◌∙◌}
use Rattle.m68k_chip.specs.States.{next_of}
use Rattle.z80_chip.specs.States.{next_of as sub_next_of}
use Rattle.md_chips.specs.Console.{Console, fm_moved, line_moved, main_moved, moved, mover, psg_moved, ran, sub_moved}
use Rattle.md_chips.specs.Movers.{mover-lt}
use Rattle.md_chips.proofs.Moves.{five-each}

one-cart : (b : Bool) (x y : Console) (cart : List ℕ) → x.cart ≡ cart → y.cart ≡ cart → (cond b x y).cart ≡ cart
one-cart true x y cart first second = first
one-cart false x y cart first second = second

moved-cart : (z : Console) (i : ℕ) → i < 5 → (moved z i).cart ≡ z.cart
unfolding moved main_moved sub_moved line_moved fm_moved psg_moved
moved-cart z = five-each (λ i. (moved z i).cart ≡ z.cart) (one-cart (next_of z.main).sample _ _ z.cart refl refl) (one-cart (sub_next_of z.sub.state).sample _ _ z.cart refl refl) refl refl refl

pub cart-stays : (m : Console) (n : ℕ) → (ran m n).cart ≡ m.cart
unfolding ran
cart-stays m zero = refl
cart-stays m (suc n) = moved-cart (ran m n) (mover (ran m n)) (mover-lt (ran m n)) ∙ cart-stays m n
