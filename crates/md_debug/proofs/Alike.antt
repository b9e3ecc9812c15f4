-- Sessions that continue alike: they differ at most in output that their machines hold.
use Rattle.std.proofs.Common.{◌≡◌, ℕ, ◌-◌, List, [], ◌∷◌, ◌++◌, length, get_or, take, drop, Result, Ok, Err, refl, sym, ap, ap₂, subst, ◌∙◌, arith}
use Rattle.circular_buffer.specs.Buffer.{keep_last}
use Rattle.md_debug.specs.Kept.{all_pages, padded, per_state}
use Rattle.debug_text.specs.Commands.{command_of}
use Rattle.debug_text.specs.declared.command.Command.{Command}
use Rattle.debug_text.specs.declared.command.Command.TheVariants.{Step, RunTo, Back, Regs, Mem, Dis, Trace, Report}
use Rattle.debug_text.specs.declared.command.Misread.{Misread}
use Rattle.debug_text.specs.Replies.{address_reply, byte_reply, cycle_reply, instruction_reply, register_reply}
use Rattle.debug_text.specs.Report.{report_reply}
use Rattle.md_debug.specs.Scripts.{IsRefused}
use Rattle.md_debug.specs.Going.{RunsTo, Steps, latest, least_of, start_of}
use Rattle.md_debug.specs.Keeping.{image_in}
use Rattle.md_debug.specs.Sessions.{KeptAndWent, Obeys, SessionValue, WentBack, oldest_of, reply_to}
use Rattle.md_debug.specs.declared.fault.DebugFault.{DebugFault}
use Rattle.md_debug.specs.declared.fault.DebugFault.TheVariants as faults
use Rattle.md_chips.specs.Machines.{MachineValue}
use Rattle.md_chips.specs.Starts.{Start}
use Rattle.page_ring.specs.Kept.{IsPushed}
use Rattle.md_debug.proofs.Machines.{one_pushed, one_run, one_steps}

pub record Alike {Images : Type 0} (a b : SessionValue Images) : Type 0 where
  pub images : a.images ≡ b.images
  pub start : start_of a.machine ≡ start_of b.machine
  pub states : a.states ≡ b.states
  pub cycles : a.cycles ≡ b.cycles
  pub begun : a.begun ≡ b.begun

pub alike_self : {Images : Type 0} (a : SessionValue Images) → Alike a a
alike_self a = record { images = refl; start = refl; states = refl; cycles = refl; begun = refl }

alike_is : {Images : Type 0} (a b x y : SessionValue Images) → Alike a b → x ≡ a → y ≡ b → Alike x y
alike_is a b x y same one two = record {
  images = ap (λ (s : SessionValue _). s.images) one ∙ same.images ∙ sym (ap (λ (s : SessionValue _). s.images) two);
  start = ap (λ (s : SessionValue _). start_of s.machine) one ∙ same.start ∙ sym (ap (λ (s : SessionValue _). start_of s.machine) two);
  states = ap (λ (s : SessionValue _). s.states) one ∙ same.states ∙ sym (ap (λ (s : SessionValue _). s.states) two);
  cycles = ap (λ (s : SessionValue _). s.cycles) one ∙ same.cycles ∙ sym (ap (λ (s : SessionValue _). s.cycles) two);
  begun = ap (λ (s : SessionValue _). s.begun) one ∙ same.begun ∙ sym (ap (λ (s : SessionValue _). s.begun) two);
}

-- they have the same replies
pub reply_alike : {Images : Type 0} (command : Command) (a b : SessionValue Images) → Alike a b → reply_to command a ≡ reply_to command b
reply_alike (Step n) a b same = ap (λ (s : Start). cycle_reply (least_of s.console)) same.start
reply_alike (RunTo end) a b same = ap (λ (s : Start). cycle_reply (least_of s.console)) same.start
reply_alike (Back n) a b same = ap (λ (s : Start). cycle_reply (least_of s.console)) same.start
reply_alike Regs a b same = ap (λ (s : Start). register_reply s.console.main.regs) same.start
reply_alike (Mem at count) a b same = ap (λ (s : Start). byte_reply s.console.cart s.console.main.ram at count) same.start
reply_alike (Dis at count) a b same = ap (λ (s : Start). instruction_reply s.console.cart s.console.main.ram at count) same.start
reply_alike (Trace count) a b same = ap (λ (l : List ℕ). address_reply (keep_last count l)) same.begun
reply_alike Report a b same = ap (λ (s : Start). report_reply (least_of s.console) s.console.main.regs) same.start

-- and refuse a line alike
same_err : (a b : Misread) → ◌≡◌ {A = Result Command Misread} (Err a) (Err b) → a ≡ b
same_err a b is = cc

pub same_ok : (a b : Command) → ◌≡◌ {A = Result Command Misread} (Ok a) (Ok b) → a ≡ b
same_ok a b is = cc

not_ok : (r : Result Command Misread) (command : Command) (misread : Misread) → r ≡ Ok command → r ≡ Err misread → ⊥
not_ok r command misread good bad = cc

same_back : (a b : ℕ) → ◌≡◌ {A = Command} (Back a) (Back b) → a ≡ b
same_back a b is = cc

oldest_alike : {Images : Type 0} (a b : SessionValue Images) → Alike a b → oldest_of a ≡ oldest_of b
oldest_alike a b same = ap (λ (l : List ℕ). get_or l (length l - 1) 0) same.cycles

pub one_fault : {Images : Type 0} (line : List ℕ) (a b : SessionValue Images) (first second : DebugFault) → Alike a b → IsRefused a line first → IsRefused b line second → first ≡ second
one_fault line a b faults.UnknownWord faults.UnknownWord same one two = refl
one_fault line a b faults.BadNumber faults.BadNumber same one two = refl
one_fault line a b (faults.NotKept n) (faults.NotKept m) same one two = ap faults.NotKept (one.1.1.1 ∙ oldest_alike a b same ∙ sym two.1.1.1)
one_fault line a b faults.UnknownWord faults.BadNumber same one two = absurd (let differ = same_err _ _ (sym one ∙ two) in cc)
one_fault line a b faults.BadNumber faults.UnknownWord same one two = absurd (let differ = same_err _ _ (sym one ∙ two) in cc)
one_fault line a b faults.UnknownWord (faults.NotKept m) same one two = absurd (not_ok (command_of line) _ _ two.1.0 one)
one_fault line a b faults.BadNumber (faults.NotKept m) same one two = absurd (not_ok (command_of line) _ _ two.1.0 one)
one_fault line a b (faults.NotKept n) faults.UnknownWord same one two = absurd (not_ok (command_of line) _ _ one.1.0 two)
one_fault line a b (faults.NotKept n) faults.BadNumber same one two = absurd (not_ok (command_of line) _ _ one.1.0 two)
one_fault line a b faults.NoMemory second same one two = absurd one
one_fault line a b first faults.NoMemory same one two = absurd two

module _ {Images : Type 0} (size : Images → ℕ) (spelling : Images → MachineValue → List ℕ) (keeps : Images → List ℕ → MachineValue → Type 0) where
  -- an image hangs on the machine's cycle and console alone
  abbrev pub IsSpelledByStart : Type 0
  IsSpelledByStart = (images : Images) (m w : MachineValue) → start_of m ≡ start_of w → spelling images m ≡ spelling images w

  -- bytes keep one machine alone
  abbrev pub KeepOne : Type 0
  KeepOne = (images : Images) (bytes : List ℕ) (m w : MachineValue) → keeps images bytes m → keeps images bytes w → m ≡ w

  -- a line that is obeyed is not refused
  pub not_refused : (line : List ℕ) (command : Command) (a b new : SessionValue Images) (fault : DebugFault) → Alike a b → command_of line ≡ Ok command
      → Obeys size spelling keeps a command new → IsRefused b line fault → ⊥
  not_refused line command a b new faults.UnknownWord same is obeys refused = not_ok (command_of line) command _ is refused
  not_refused line command a b new faults.BadNumber same is obeys refused = not_ok (command_of line) command _ is refused
  not_refused line command a b new (faults.NotKept oldest) same is obeys (n, (back, (few, at))) =
      let which : command ≡ Back n = same_ok command (Back n) (sym is ∙ back) in
      let went : WentBack size spelling keeps n a new = subst (λ (c : Command). Obeys size spelling keeps a c new) which obeys in
      omega (arith, went.there, few, ap (λ (l : List (List ℕ)). length l) same.states)
  not_refused line command a b new faults.NoMemory same is obeys refused = refused

  kept_alike : (a b x y : SessionValue Images) (first second : List ℕ) → IsSpelledByStart → Alike a b → start_of x.machine ≡ start_of y.machine → first ≡ second
      → KeptAndWent size spelling keeps a x first → KeptAndWent size spelling keeps b y second → Alike x y
  kept_alike a b x y first second spelled same start begun one two =
      let image : padded (spelling a.images a.machine) ≡ padded (spelling b.images b.machine) =
      ap padded (spelled a.images a.machine b.machine same.start ∙ ap (λ (i : Images). spelling i b.machine) same.images) in
      let pushed : IsPushed all_pages per_state a.states (padded (spelling a.images a.machine)) y.states =
      subst (λ (l : List (List ℕ)). IsPushed all_pages per_state l (padded (spelling a.images a.machine)) y.states) (sym same.states)
      (subst (λ (l : List ℕ). IsPushed all_pages per_state b.states l y.states) (sym image) two.kept.states) in
      let states : x.states ≡ y.states = one_pushed all_pages per_state a.states (padded (spelling a.images a.machine)) x.states y.states one.kept.states pushed in
      record {
        images = one.kept.images ∙ same.images ∙ sym two.kept.images;
        start = start;
        states = states;
        cycles = one.kept.cycles ∙ (λ i. take (length (states i)) ((same.start i).at ∷ same.cycles i)) ∙ sym two.kept.cycles;
        begun = one.begun_is ∙ ap₂ (λ (s t : List ℕ). latest (s ++ t)) same.begun begun ∙ sym two.begun_is;
      }

  back_alike : (n : ℕ) (a b x y : SessionValue Images) → KeepOne → Alike a b → WentBack size spelling keeps n a x → WentBack size spelling keeps n b y → Alike x y
  back_alike n a b x y keep same one two =
      let other : keeps a.images (image_in (size a.images) (get_or a.states (n - 1) [])) y.machine =
      subst (λ (l : List (List ℕ)). keeps a.images (image_in (size a.images) (get_or l (n - 1) [])) y.machine) (sym same.states)
      (subst (λ (i : Images). keeps i (image_in (size i) (get_or b.states (n - 1) [])) y.machine) (sym same.images) two.kept) in
      let machine : x.machine ≡ y.machine = keep a.images _ x.machine y.machine one.kept other in
      record {
        images = one.images ∙ same.images ∙ sym two.images;
        start = ap start_of machine;
        states = one.states ∙ ap (drop (n - 1)) same.states ∙ sym two.states;
        cycles = one.cycles ∙ ap (drop (n - 1)) same.cycles ∙ sym two.cycles;
        begun = one.begun_is ∙ same.begun ∙ sym two.begun_is;
      }

  pub obeys_alike : (command : Command) (a b x y : SessionValue Images) → IsSpelledByStart → KeepOne → Alike a b
      → Obeys size spelling keeps a command x → Obeys size spelling keeps b command y → Alike x y
  obeys_alike (Step n) a b x y spelled keep same (first, (steps, kept)) (second, (steps', kept')) =
      let one = one_steps n (start_of a.machine) (start_of x.machine) (start_of y.machine) first second steps (subst (λ (s : Start). Steps n s (start_of y.machine) second) (sym same.start) steps') in
      kept_alike a b x y first second spelled same one.0 one.1 kept kept'
  obeys_alike (RunTo end) a b x y spelled keep same (first, (runs, kept)) (second, (runs', kept')) =
      let one = one_run end (start_of a.machine) (start_of x.machine) (start_of y.machine) first second runs (subst (λ (s : Start). RunsTo end s (start_of y.machine) second) (sym same.start) runs') in
      kept_alike a b x y first second spelled same one.0 one.1 kept kept'
  obeys_alike (Back n) a b x y spelled keep same one two = back_alike n a b x y keep same one two
  obeys_alike Regs a b x y spelled keep same one two = alike_is a b x y same one two
  obeys_alike (Mem at count) a b x y spelled keep same one two = alike_is a b x y same one two
  obeys_alike (Dis at count) a b x y spelled keep same one two = alike_is a b x y same one two
  obeys_alike (Trace count) a b x y spelled keep same one two = alike_is a b x y same one two
  obeys_alike Report a b x y spelled keep same one two = alike_is a b x y same one two
