-- What an event of the Z80 leaves, and what it asks for. Cycles are master cycles, of which a clock
-- has 15. Zilog UM0080, "CPU Timing"; the places of events are this project's profile.
use Rattle.std.specs.Prelude.{◌≡◌, IsSome, ℕ, zero, suc, ◌+◌, ◌-◌, ◌*◌, ◌<◌, ◌≤◌, List, [], ◌∷◌, ◌++◌, length, Option, Some, None, option_map, unwrap_or, Result, Ok, Err}
use Rattle.md_word.specs.Clock.{sub_clock, sub_gap}
use Rattle.md_word.specs.declared.pins.Pins80.{Pins80}
use Rattle.md_word.specs.declared.sub_bus.Request80.{Request80}
use Rattle.z80_exec.specs.Sample.Samples.{Ended, sampled}
use Rattle.z80_exec.specs.declared.sample.step.Finish80.{Finish80}
use Rattle.z80_chip.specs.Cases.{case_of, seen}
use Rattle.z80_chip.specs.States.{State80}
use Rattle.z80_parcel.specs.Parcels as parcels
use Rattle.z80_parcel.specs.Parcels.{Store, written}
use Rattle.z80_parcel.specs.Requests.{RequestValue80, HandOver, TakeBack, AnswerValue80, request_value80_of, store_in, value_in}
use Rattle.z80_chip.specs.declared.case.Case.{Case}
use Rattle.z80_chip.specs.declared.case.Case.TheVariants as cases
use Rattle.z80_chip.specs.declared.stage.Stage.{Stage}
use Rattle.z80_chip.specs.declared.stage.Stage.TheVariants.{Sample, Access, Yield, Take}

-- from a sample to the first access, and to a yield or a take; also the time for which a halted Z80
-- waits
abbrev pub first_step : ℕ
first_step = 60

-- from one access to the next; also the time for which a Z80 waits that is in reset or has no RAM
abbrev pub step : ℕ
step = sub_gap

-- RAM and bank register; where the Z80 has none, any
abbrev pub held : Option Store → Store
held store = unwrap_or store (parcels.first)

-- what the sample of this cause results in with the answers so far
abbrev pub carried_out : List ℕ → State80 → ℕ → Result Ended Request80
carried_out cart state cause =
    sampled cause state.regs (record { rom = cart; ram = (held state.store).ram; bank = (held state.store).bank; answers = state.answers })

-- at a sample at this cycle
abbrev pub at_sample : State80 → ℕ → State80
at_sample state cycle = record state { next = cycle; start = cycle; stage = Sample }

-- nothing is done for so long
abbrev pub waited : State80 → ℕ → State80
waited state cycles = at_sample state (state.start + cycles)

-- it goes to a yield or a take
abbrev pub moving : State80 → Stage → State80
moving state stage = record state { next = state.start + first_step; stage = stage }

-- it goes to the access that waits for the next answer
abbrev pub asking : State80 → ℕ → State80
asking state cause = record state {
  next = state.start + first_step + step * length state.answers;
  stage = Access;
  cause = cause;
}

-- what it leaves where all its accesses are answered: only now RAM and bank register are written
abbrev pub left_by : State80 → Ended → State80
left_by state ended = record state {
  regs = ended.regs;
  halted = ended.halted;
  after_ei = ended.after_ei;
  cause = 0;
  answers = [];
  store = option_map (written ended.writes) state.store;
}

-- after a sample whose accesses are all answered: what it left, at the next sample
abbrev pub finished : State80 → Ended → State80
finished state ended = at_sample (left_by state ended) (state.start + sub_clock * ended.t)

-- the same but for the registers, RAM and bank register, which are left elsewhere
abbrev pub ended_at : State80 → Finish80 → State80
ended_at state finish =
    at_sample (record state { halted = finish.halted; after_ei = finish.after_ei; cause = 0; answers = [] }) (state.start + sub_clock * finish.t)

-- after what was carried out: at its end, or at the access that waits
abbrev pub came_to : State80 → ℕ → Result Ended Request80 → State80
came_to state cause (Ok ended) = finished state ended
came_to state cause (Err request) = asking state cause

-- it continues what it carries out, as far as the answers go
unfoldable pub went_on : List ℕ → State80 → ℕ → State80
went_on cart state cause = came_to state cause (carried_out cart state cause)

-- after a sample, case by case
abbrev pub begun_as : Case → List ℕ → State80 → State80
begun_as cases.Yield cart state = moving state Yield
begun_as cases.Take cart state = moving state Take
begun_as cases.Suspended cart state = waited state step
begun_as cases.InReset cart state = waited state step
begun_as cases.Interrupt cart state = went_on cart state 1
begun_as cases.Halted cart state = waited state first_step
begun_as cases.Instruction cart state = went_on cart state 0

-- after a sample of these pins
unfoldable pub begun : List ℕ → State80 → Pins80 → State80
begun cart state pins = begun_as (case_of (seen state pins) pins) cart (seen state pins)

-- after n samples of the same pins
unfoldable pub begun_after : ℕ → List ℕ → State80 → Pins80 → State80
begun_after zero cart state pins = state
begun_after (suc n) cart state pins = begun cart (begun_after n cart state pins) pins

-- however many samples of the same pins it makes, its next event is a sample
abbrev pub Rests : List ℕ → State80 → Pins80 → Type 0
Rests cart state pins = (n : ℕ) → (begun_after n cart state pins).stage ≡ Sample

-- so many samples of the same pins, at least one, lead from one state to the other, where each but the
-- first lies below a cycle
pub record WentAhead (samples cycle : ℕ) (cart : List ℕ) (pins : Pins80) (before after : State80) : Type 0 where
  pub some : 1 ≤ samples
  pub sample : (k : ℕ) → 1 ≤ k → k < samples → (begun_after k cart before pins).stage ≡ Sample
  pub below : (k : ℕ) → 1 ≤ k → k < samples → (begun_after k cart before pins).next < cycle
  pub is : after ≡ begun_after samples cart before pins

-- from the sample that saw the request change to the sample after it
abbrev pub move_step : ℕ
move_step = 105

-- after a yield or a take: the Z80 has what the answer gives back, and samples
abbrev pub moved : State80 → AnswerValue80 → State80
moved state answer = at_sample (record state { store = store_in answer }) (state.start + move_step)

-- it continues with one answer more
abbrev pub went_on_with : List ℕ → State80 → ℕ → State80
went_on_with cart state value = went_on cart (record state { answers = state.answers ++ value ∷ [] }) state.cause

-- after the answer to an access
abbrev pub answered_at : Stage → List ℕ → State80 → AnswerValue80 → State80
answered_at Sample cart state answer = state
answered_at Access cart state answer = went_on_with cart state (value_in answer)
answered_at Yield cart state answer = moved state answer
answered_at Take cart state answer = moved state answer

-- after the answer to the access, the yield or the take that was the next event
unfoldable pub answered : List ℕ → State80 → AnswerValue80 → State80
answered cart state answer = answered_at state.stage cart state answer

-- the request that waits for its answer
abbrev pub asked_in : Result Ended Request80 → RequestValue80
asked_in (Err request) = request_value80_of request
asked_in (Ok ended) = TakeBack

-- what a yield hands over; where there is nothing, it takes
abbrev pub handing : Option Store → RequestValue80
handing (Some store) = HandOver store
handing None = TakeBack

-- the access that is the next event
abbrev pub asked_at : Stage → List ℕ → State80 → RequestValue80
asked_at Sample cart state = TakeBack
asked_at Access cart state = asked_in (carried_out cart state state.cause)
asked_at Yield cart state = handing state.store
asked_at Take cart state = TakeBack

-- what the next event asks; at a sample a take that is never made
unfoldable pub asked_of : List ℕ → State80 → RequestValue80
asked_of cart state = asked_at state.stage cart state

-- what the Z80 keeps of its RAM while the request waits: a yield hands it over
abbrev pub kept_at : Stage → Option Store → Option Store
kept_at Sample store = store
kept_at Access store = store
kept_at Yield store = None
kept_at Take store = store

-- the state while the request waits
unfoldable pub handed : State80 → State80
handed state = record state { store = kept_at state.stage state.store }

-- what is carried out waits for an answer
abbrev pub Asks : List ℕ → State80 → Type 0
Asks cart state = (request : Request80) × (carried_out cart state state.cause ≡ Err request)

-- at an access the Z80 has its RAM
abbrev pub HasRam : Stage → State80 → Type 0
HasRam Access state = IsSome state.store
HasRam stage state = Unit {0}

-- at an access the Z80 has its RAM, and what is carried out waits for an answer
abbrev pub Waits : Stage → List ℕ → State80 → Type 0
Waits Access cart state = IsSome state.store × Asks cart state
Waits stage cart state = Unit {0}
