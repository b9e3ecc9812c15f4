-- What rests at a sample or at a word of a transfer is valid.
use Rattle.std.proofs.Common.{◌≡◌, ℕ, ◌+◌, ◌<◌, ◌≤◌, ◌==◌, inl, inr, Bool, true, false, List, [], length, Option, Some, None, IfSome, refl, ap, arith}
use Rattle.std.specs.Prelude.{if◌then◌else◌}
use Rattle.std.proofs.lemmas.Bool.Decides.{nat_tests}
use Rattle.md_word.specs.declared.main_bus.Transfer.{Transfer}
use Rattle.rom_header.specs.Cartridge.{IsImage}
use Rattle.m68k_access.specs.Memory.{ram_size}
use Rattle.m68k_exec.specs.Sample.Bounds.{IsStatus}
use Rattle.m68k_chip.specs.Events.{at_sample, at_word, rested}
use Rattle.m68k_chip.specs.Validity.{IsChip68, IsTransfer}
use Rattle.m68k_chip.specs.States.{State68, none_left}

-- what holds of a state that is at rest after an end
pub record CanRest (cart : List ℕ) (state : State68) (end : ℕ) : Type 0 where
  pub image : IsImage cart
  pub ram : length state.ram ≡ ram_size
  pub status : IsStatus state.regs.sr
  pub transfer : IsTransfer state.transfer
  pub halted : IfSome state.halted (λ since. since < end)
  pub cause : state.cause ≡ 0
  pub answers : state.answers ≡ []

-- a bound on the start of a halt, raised
pub raised : (halted : Option ℕ) (low high : ℕ) → low ≤ high → IfSome halted (λ since. since < low) → IfSome halted (λ since. since < high)
raised None low high le h = tt
raised (Some since) low high le h = omega (arith, h, le)

started : (transfer : Transfer) → (transfer.words == 0) ≡ false → IsTransfer transfer → 1 ≤ transfer.words
started transfer e (inl none) = let zero : transfer.words ≡ 0 = ap (λ (t : Transfer). t.words) none in grind (arith, nat_tests)
started transfer e (inr some) = some.some

none : (transfer : Transfer) → (transfer.words == 0) ≡ true → IsTransfer transfer → transfer ≡ none_left
none transfer e (inl is) = is
none transfer e (inr some) = let least = some.some in absurd (grind (arith, nat_tests))

rested-by : (b : Bool) (cart : List ℕ) (state : State68) (end : ℕ) → (state.transfer.words == 0) ≡ b → CanRest cart state end
    → IsChip68 (record { cart = cart; state = if b then at_sample state end else at_word state (end + state.transfer.cost) })
rested-by true cart state end e r = record {
  image = r.image;
  ram = r.ram;
  status = r.status;
  transfer = r.transfer;
  halted = r.halted;
  stands = (record { start = refl; cause = r.cause; answers = r.answers }, none state.transfer e r.transfer);
}
rested-by false cart state end e r = record {
  image = r.image;
  ram = r.ram;
  status = r.status;
  transfer = r.transfer;
  halted = raised state.halted end (end + state.transfer.cost) (omega arith) r.halted;
  stands = (record { start = refl; cause = r.cause; answers = r.answers }, started state.transfer e r.transfer);
}

pub rested-ok : (cart : List ℕ) (state : State68) (end : ℕ) → CanRest cart state end → IsChip68 (record { cart = cart; state = rested state end })
rested-ok cart state end r = rested-by (state.transfer.words == 0) cart state end refl r

later-by : (b : Bool) (state : State68) (end : ℕ) → end ≤ (if b then at_sample state end else at_word state (end + state.transfer.cost)).next
later-by true state end = omega arith
later-by false state end = omega arith

pub rested-later : (state : State68) (end : ℕ) → end ≤ (rested state end).next
rested-later state end = later-by (state.transfer.words == 0) state end
