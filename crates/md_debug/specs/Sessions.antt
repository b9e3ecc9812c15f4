-- What a session is, what a command makes of it, and the reply.
use Rattle.std.specs.Prelude.{◌≡◌, ℕ, ◌-◌, ◌%◌, ◌^◌, ◌<◌, ◌≤◌, ⊤, List, [], ◌∷◌, ◌++◌, length, get_or, take, drop}
use Rattle.circular_buffer.specs.Buffer.{keep_last}
use Rattle.debug_text.specs.declared.command.Command.{Command}
use Rattle.debug_text.specs.declared.command.Command.TheVariants.{Step, RunTo, Back, Regs, Mem, Dis, Trace, Report}
use Rattle.debug_text.specs.declared.command.Misread.{Misread}
use Rattle.debug_text.specs.declared.command.Misread.TheVariants as misread
use Rattle.debug_text.specs.Replies.{address_reply, byte_reply, cycle_reply, instruction_reply, register_reply}
use Rattle.debug_text.specs.Report.{report_reply}
use Rattle.md_chips.specs.Machines.{MachineValue}
use Rattle.md_word.specs.Clock.{last_cycle}
use Rattle.page_ring.specs.Kept.{IsPushed}
use Rattle.md_debug.specs.Going.{RunsTo, Steps, latest, least_of, start_of}
use Rattle.md_debug.specs.Kept.{all_pages, padded, per_state}
use Rattle.md_debug.specs.Keeping.{image_in}
use Rattle.md_debug.specs.declared.fault.DebugFault.{DebugFault}
use Rattle.md_debug.specs.declared.fault.DebugFault.TheVariants as faults

-- what makes the images; the machine; the kept states in whole pages and their cycles, newest first; and
-- the addresses of the last instructions that were begun, oldest first
pub record SessionValue (Images : Type 0) : Type 0 where
  pub images : Images
  pub machine : MachineValue
  pub states : List (List ℕ)
  pub cycles : List ℕ
  pub begun : List ℕ

-- the faults of a line that asks for nothing
abbrev pub refusal : Misread → DebugFault
refusal misread.UnknownWord = faults.UnknownWord
refusal misread.BadNumber = faults.BadNumber

module _ {Images : Type 0} (size : Images → ℕ) (spelling : Images → MachineValue → List ℕ) (keeps : Images → List ℕ → MachineValue → Type 0) where
  -- a machine is kept before the states that are kept already, as many of the newest as their cost allows
  pub record Keeps (old new : SessionValue Images) : Type 0 where
    pub images : new.images ≡ old.images
    pub states : IsPushed all_pages per_state old.states (padded (spelling old.images old.machine)) new.states
    pub cycles : new.cycles ≡ take (length new.states) (old.machine.at ∷ old.cycles)

  -- a command that continues keeps the machine first, and then begins these instructions
  pub record KeptAndWent (old new : SessionValue Images) (begun : List ℕ) : Type 0 where
    pub kept : Keeps old new
    pub begun_is : new.begun ≡ latest (old.begun ++ begun)

  -- the machine of one of the kept states, 1 being the newest; the newer ones are dropped, and it stays
  pub record WentBack (n : ℕ) (old new : SessionValue Images) : Type 0 where
    pub some : 1 ≤ n
    pub there : n ≤ length old.states
    pub kept : keeps old.images (image_in (size old.images) (get_or old.states (n - 1) [])) new.machine
    pub images : new.images ≡ old.images
    pub states : new.states ≡ drop (n - 1) old.states
    pub cycles : new.cycles ≡ drop (n - 1) old.cycles
    pub begun_is : new.begun ≡ old.begun

  -- the session after a command
  abbrev pub Obeys : SessionValue Images → Command → SessionValue Images → Type 0
  Obeys old (Step n) new = (begun : List ℕ) × (Steps n (start_of old.machine) (start_of new.machine) begun × KeptAndWent old new begun)
  Obeys old (RunTo end) new = (begun : List ℕ) × (RunsTo end (start_of old.machine) (start_of new.machine) begun × KeptAndWent old new begun)
  Obeys old (Back n) new = WentBack n old new
  Obeys old Regs new = new ≡ old
  Obeys old (Mem at count) new = new ≡ old
  Obeys old (Dis at count) new = new ≡ old
  Obeys old (Trace count) new = new ≡ old
  Obeys old Report new = new ≡ old

-- the cycle of the oldest kept state
abbrev pub oldest_of : {Images : Type 0} → SessionValue Images → ℕ
oldest_of s = get_or s.cycles (length s.cycles - 1) 0

-- the reply to a command, from the session after it
abbrev pub reply_to : {Images : Type 0} → Command → SessionValue Images → List ℕ
reply_to (Step n) s = cycle_reply (least_of s.machine.console)
reply_to (RunTo end) s = cycle_reply (least_of s.machine.console)
reply_to (Back n) s = cycle_reply (least_of s.machine.console)
reply_to Regs s = register_reply s.machine.console.main.regs
reply_to (Mem at count) s = byte_reply s.machine.console.cart s.machine.console.main.ram at count
reply_to (Dis at count) s = instruction_reply s.machine.console.cart s.machine.console.main.ram at count
reply_to (Trace count) s = address_reply (keep_last count s.begun)
reply_to Report s = report_reply (least_of s.machine.console) s.machine.console.main.regs

-- the numbers of a command are within bounds: it goes back by one state at least, and addresses are those of the
-- bus, and even for instructions
abbrev pub IsWithinBounds : Command → Type 0
IsWithinBounds (RunTo end) = end ≤ last_cycle
IsWithinBounds (Back n) = 1 ≤ n
IsWithinBounds (Mem at count) = (at < 2 ^ 24) × (count < 2 ^ 24)
IsWithinBounds (Dis at count) = (at % 2 ≡ 0) × (at < 2 ^ 24)
IsWithinBounds command = ⊤

-- a command that leaves the session as it is
abbrev pub IsQuestion : Command → Type 0
IsQuestion (Step n) = ⊥
IsQuestion (RunTo end) = ⊥
IsQuestion (Back n) = ⊥
IsQuestion command = IsWithinBounds command
