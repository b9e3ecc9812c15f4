-- Instructions that make no shared access.
use Rattle.std.proofs.Common.{◌≡◌, ℕ, ◌+◌, ◌*◌, List, [], Option, Some, Result, Err, refl, sym, subst}
use Rattle.md_word.specs.Clock.{main_clock}
use Rattle.md_word.specs.declared.main_bus.Request68.{Request68}
use Rattle.md_word.specs.declared.regs.Regs.{Regs}
use Rattle.m68k_access.specs.Memory.{ram_after}
use Rattle.m68k_access.specs.declared.stop.Stop.{Stop}
use Rattle.m68k_access.specs.declared.stop.Stop.TheVariants.{Ask}
use Rattle.m68k_exec.specs.Sample.Private.{EndsPrivately, WaitsPrivately}
use Rattle.m68k_exec.specs.Sample.Samples.{Ended, sampled}
use Rattle.m68k_exec.specs.declared.sample.step.Predicted.{Predicted}
use Rattle.m68k_chip.specs.Events.{asking, rested, went_on}
use Rattle.m68k_chip.specs.Held.{IsPredicted, WaitsFor}
use Rattle.m68k_chip.specs.States.{State68}
use Rattle.m68k_chip.specs.Steps.{IsPredictedEnd, IsReported, running}
use Rattle.m68k_chip.proofs.Waiting.{went-predicted, went-waits}

-- an instruction that was carried out at once, where the processor has these registers and this RAM
abbrev pub Ends : List ℕ → State68 → ℕ → Regs → List (ℕ × ℕ) → Type 0
Ends cart state clocks regs written = EndsPrivately (sampled 0 state.regs) clocks regs written (record { rom = cart; ram = state.ram; answers = [] })

-- it is what the sample comes to
pub private-ends : (cart : List ℕ) (state : State68) (clocks : ℕ) (regs : Regs) (written : List (ℕ × ℕ)) → Ends cart state clocks regs written
    → rested (running (record state { regs = regs; ram = ram_after state.ram written })) (state.start + main_clock * clocks) ≡ went_on cart state 0 []
unfolding went_on
private-ends cart state clocks regs written ends =
    rw (ends.ends) (rw (ends.leaves, ends.writes, ends.stopped, ends.halted, ends.trace, ends.takes) refl)

-- nothing waits behind it
pub private-waits : (cart : List ℕ) (state new : State68) (clocks : ℕ) (regs : Regs) (written : List (ℕ × ℕ)) (request : Option Request68) → Ends cart state clocks regs written → new ≡ went_on cart state 0 [] → WaitsFor new.stage cart new request
private-waits cart state new clocks regs written request ends is =
    went-waits cart state 0 [] new request is (subst (λ (r : Result Ended Stop). IsReported r request) (sym ends.ends) tt)

pub private-predicted : (cart : List ℕ) (state new : State68) (clocks : ℕ) (regs : Regs) (written : List (ℕ × ℕ)) (predicted : Predicted) → Ends cart state clocks regs written → new ≡ went_on cart state 0 [] → IsPredicted new.stage cart new predicted
private-predicted cart state new clocks regs written predicted ends is =
    went-predicted cart state 0 [] new predicted is (subst (λ (r : Result Ended Stop). IsPredictedEnd r predicted cart state 0 []) (sym ends.ends) tt)

-- it waits for its one access
pub private-asks : (cart : List ℕ) (state : State68) (request : Request68) → sampled 0 state.regs (record { rom = cart; ram = state.ram; answers = [] }) ≡ Err (Ask request) → asking state 0 [] ≡ went_on cart state 0 []
unfolding went_on
private-asks cart state request asks = rw asks refl

pub asked-waits : (cart : List ℕ) (state new : State68) (asked : Request68) (request : Option Request68) → sampled 0 state.regs (record { rom = cart; ram = state.ram; answers = [] }) ≡ Err (Ask asked) → request ≡ Some asked → new ≡ went_on cart state 0 []
    → WaitsFor new.stage cart new request
asked-waits cart state new asked request asks is same = went-waits cart state 0 [] new request same (subst (λ (r : Result Ended Stop). IsReported r request) (sym asks) is)

pub asked-predicted : (cart : List ℕ) (state new : State68) (asked : Request68) (predicted : Predicted) → WaitsPrivately (sampled 0 state.regs) asked predicted (record { rom = cart; ram = state.ram; answers = [] }) → new ≡ went_on cart state 0 []
    → IsPredicted new.stage cart new predicted
asked-predicted cart state new asked predicted waits same =
    went-predicted cart state 0 [] new predicted same (subst (λ (r : Result Ended Stop). IsPredictedEnd r predicted cart state 0 []) (sym waits.asks) waits.ends)
