-- What an event of the 68000 leaves, and what it asks for. Cycles are master cycles, of which a clock
-- has 7. M68000 User's Manual, the bus cycles; the places of events are this project's profile.
use Rattle.std.specs.Prelude.{◌≡◌, ℕ, zero, suc, ◌+◌, ◌-◌, ◌*◌, ◌/◌, ◌%◌, ◌^◌, ◌<◌, ◌≤◌, nat_le, true, ◌==◌, if◌then◌else◌, List, [], ◌∷◌, ◌++◌, length, Option, Some, None, Result, Ok, Err}
use Rattle.md_word.specs.Clock.{main_clock, main_gap}
use Rattle.md_word.specs.declared.main_bus.Answer68.{Answer68}
use Rattle.md_word.specs.declared.main_bus.Request68.{Request68}
use Rattle.md_word.specs.declared.main_bus.Request68.TheVariants as requests
use Rattle.md_word.specs.declared.main_bus.Transfer.{Transfer}
use Rattle.m68k_time.specs.Clocks.{clocks_of}
use Rattle.m68k_access.specs.Memory.{ram_after, word_at}
use Rattle.m68k_exec.specs.Sample.Samples.{Ended, sampled}
use Rattle.m68k_access.specs.declared.stop.Stop.{Stop}
use Rattle.m68k_access.specs.declared.stop.Stop.TheVariants.{Ask}
use Rattle.m68k_chip.specs.Cases.{case_of, cause_of}
use Rattle.m68k_chip.specs.States.{State68, next_of, none_left}
use Rattle.m68k_chip.specs.declared.stage.Stage.{Stage}
use Rattle.m68k_chip.specs.declared.stage.Stage.TheVariants.{Sample, Access, Word}

-- from a sample to the first access of what it carries out, and from one access to the next; also the
-- time for which a 68000 waits that is stopped or halted
abbrev pub step : ℕ
step = main_gap

-- the outcome of the sample of this cause with these answers
abbrev pub carried_out : List ℕ → State68 → ℕ → List ℕ → Result Ended Stop
carried_out cart state cause answers = sampled cause state.regs (record { rom = cart; ram = state.ram; answers = answers })

-- at a sample at this cycle
abbrev pub at_sample : State68 → ℕ → State68
at_sample state cycle = record state { next = cycle; start = cycle; stage = Sample }

-- at this cycle a word of a transfer is moved next
abbrev pub at_word : State68 → ℕ → State68
at_word state cycle = record state { next = cycle; start = cycle; stage = Word }

-- nothing is done for 4 clocks
abbrev pub waited : State68 → State68
waited state = at_sample state (state.start + step)

-- it goes to the access that waits for the next answer
abbrev pub asking : State68 → ℕ → List ℕ → State68
asking state cause answers = record state {
  next = state.start + step * (length answers + 1);
  stage = Access;
  cause = cause;
  answers = answers;
}

-- what ends at a cycle is followed by the next sample, or by the words of a transfer that it started
abbrev pub rested : State68 → ℕ → State68
rested state end =
    if state.transfer.words == 0 then at_sample state end else at_word state (end + state.transfer.cost)

-- where a sample ends that had this outcome
abbrev pub end_of : State68 → Ended → ℕ
end_of state ended = state.start + main_clock * clocks_of ended.op ended.spent

-- what it leaves where all its accesses are answered: only now work RAM is written
abbrev pub left_by : State68 → Ended → State68
left_by state ended = record state {
  regs = ended.regs;
  stopped = ended.stopped;
  trace = ended.trace;
  halted = if ended.halted then Some state.start else None;
  cause = 0;
  answers = [];
  ram = ram_after state.ram ended.writes;
}

-- after a sample whose accesses are all answered: what it left, at the event that follows
abbrev pub finished : State68 → Ended → State68
finished state ended = rested (left_by state ended) (end_of state ended)

-- after what was carried out: at its end, or at the access that waits
abbrev pub came_to : State68 → ℕ → List ℕ → Result Ended Stop → State68
came_to state cause answers (Ok ended) = finished state ended
came_to state cause answers (Err stop) = asking state cause answers

-- it continues with what it carries out, as far as these answers go
unfoldable pub went_on : List ℕ → State68 → ℕ → List ℕ → State68
went_on cart state cause answers = came_to state cause answers (carried_out cart state cause answers)

-- after a sample
abbrev pub begun_with : List ℕ → State68 → Option ℕ → State68
begun_with cart state None = waited state
begun_with cart state (Some cause) = went_on cart state cause []

-- after a sample at which an interrupt of this level is asked for, 0 for none
unfoldable pub begun : List ℕ → State68 → ℕ → State68
begun cart state level = begun_with cart state (cause_of (case_of state level))

-- after n samples at which an interrupt of this level is asked for
unfoldable pub begun_after : ℕ → List ℕ → State68 → ℕ → State68
begun_after zero cart state level = state
begun_after (suc n) cart state level = begun cart (begun_after n cart state level) level

-- so many samples with the same level, at least one, lead from one state to the other, where each but
-- the first lies below a cycle
pub record WentAhead (samples cycle : ℕ) (cart : List ℕ) (level : ℕ) (before after : State68) : Type 0 where
  pub some : 1 ≤ samples
  pub sample : (k : ℕ) → 1 ≤ k → k < samples → (next_of (begun_after k cart before level)).sample ≡ true
  pub below : (k : ℕ) → 1 ≤ k → k < samples → (begun_after k cart before level).next < cycle
  pub is : after ≡ begun_after samples cart before level

-- so many samples with the same level, each below a cycle, lead from one state to the other
pub record SampledOn (samples cycle : ℕ) (cart : List ℕ) (level : ℕ) (before after : State68) : Type 0 where
  pub sample : (k : ℕ) → k < samples → (next_of (begun_after k cart before level)).sample ≡ true
  pub below : (k : ℕ) → k < samples → (begun_after k cart before level).next < cycle
  pub is : after ≡ begun_after samples cart before level

-- a transfer that an answer starts takes the place of an earlier one
abbrev pub with_started : State68 → Option Transfer → State68
with_started state None = state
with_started state (Some transfer) = record state { transfer = transfer }

-- the source of the next word: only its low 17 bits count on
abbrev pub next_source : ℕ → ℕ
next_source source = source / 2 ^ 17 * 2 ^ 17 + (source + 2) % 2 ^ 17

-- a word was moved, and the next costs so many cycles
abbrev pub word_moved : State68 → ℕ → State68
word_moved state cost =
    if nat_le state.transfer.words 1 then at_sample (record state { transfer = none_left }) (state.next + step)
    else at_word (record state { transfer = record { source = next_source state.transfer.source; words = state.transfer.words - 1; cost = cost } }) (state.next + cost)

-- after the answer to an access
abbrev pub answered_at : Stage → List ℕ → State68 → Answer68 → State68
answered_at Sample cart state answer = state
answered_at Access cart state answer =
    went_on cart (with_started state answer.transfer) state.cause (state.answers ++ answer.value ∷ [])
answered_at Word cart state answer = word_moved state answer.cost

-- after the answer to the access or the word that was the next event
unfoldable pub answered : List ℕ → State68 → Answer68 → State68
answered cart state answer = answered_at state.stage cart state answer

-- the request that waits for its answer; where there is none, one that is never made
abbrev pub request_in : Result Ended Stop → Request68
request_in (Err (Ask request)) = request
request_in other = requests.Ack 0

-- the access that is the next event
abbrev pub request_at : Stage → List ℕ → State68 → Request68
request_at Sample cart state = requests.Ack 0
request_at Access cart state = request_in (carried_out cart state state.cause state.answers)
request_at Word cart state = requests.Word (word_at cart state.ram state.transfer.source)

-- the request of the next event; at a sample one that is never made
unfoldable pub request_of : List ℕ → State68 → Request68
request_of cart state = request_at state.stage cart state
