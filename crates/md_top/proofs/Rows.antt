-- The answers one by one, from the answer as a whole.
use Rattle.std.proofs.Common.{◌≡◌, ◌≢◌, ◌⊎◌, inl, inr, ℕ, ◌<◌, List, [], Option, Some, None, refl, sym, ap, subst, ◌∙◌, arith}
use Rattle.std.specs.Prelude.{codes}
use Rattle.rom_header.specs.Header.{header_lines}
use Rattle.md_pads.specs.Recording.{no_frames}
use Rattle.md_outer.specs.Outside.{DepotState, Files, Rose, SinkState}
use Rattle.md_top.specs.Answers.{Answers, Causes, IsRight, NoFaults, PutsAll, PutsPart, Reports, Shows}
use Rattle.md_top.specs.Inputs.{IsValidated, Spelled, Verdict, cart_of}
use Rattle.md_word.specs.Clock.{last_cycle}
use Rattle.state_laws.specs.Verdicts.{Keeps}
use Rattle.md_top.specs.CommandOutcomes.{HasCause, InfoEnds, IsReady, LeavesFiles, RunEnds, status_of}
use Rattle.md_top.specs.Refusals.{asked_command_outcome, right_completion}
use Rattle.md_vgm.specs.Outcomes.{Made, Outcome}
use Rattle.md_args.specs.Files.{input_of, output_of}
use Rattle.md_args.specs.Words.{Assemble, Command, Convert, Debug, Info, Rollback, RunCart, RunDemo, conversion_in, end_of}
use Rattle.md_args.specs.declared.files.Input.TheVariants.{Recording}
use Rattle.md_args.specs.declared.files.Output.{Output}
use Rattle.md_args.specs.declared.files.Output.TheVariants.{Listing, Target}
use Rattle.md_top.specs.Assemblies.{AsmEnds, asm_command_outcome}
use Rattle.md_top.specs.Conversions.{ConvertEnds, IsInputOutcome, convert_command_outcome}
use Rattle.md_top.specs.Demos.{DemoEnds}
use Rattle.md_top.specs.Rollings.{RollEnds}
use Rattle.md_top.specs.declared.command_outcome.CommandOutcome.{CommandOutcome}
use Rattle.md_top.specs.declared.command_outcome.CommandOutcome.TheVariants.{Shown, Usage, ReadFault, WriteFault, RecordingInvalid, StateInvalid, OtherCart, Behind, Memory, TooFar, ReplyFault, ScriptRefused, SourceRefused, InputRefused, LineRefused}
use Rattle.md_top.proofs.Assemblies.{asm_done, asm_right, asm_says, assembled_other}
use Rattle.md_top.proofs.Conversions.{convert_done, convert_right, convert_says, converted_other, made_outcome}
use Rattle.md_top.proofs.Debuggings.{debug_done, debug_right, debug_says}
use Rattle.md_top.proofs.Demos.{demo_far, demo_right, demo_says, right_demo_done}
use Rattle.md_top.proofs.Puts.{line_of}
use Rattle.md_top.proofs.Right.{right_accepted}
use Rattle.md_top.proofs.RunsRight.{recording_validated, right_done, state_validated}
use Rattle.md_top.proofs.Rollings.{roll_done, roll_right, roll_says}
use Rattle.md_top.proofs.Statuses.{IsOf, Says, info_says, is_behind, is_far, is_input_refused, is_line_refused, is_other_cart, is_read_fault, is_reply_fault, is_script_refused, is_source_refused, is_state_invalid, is_usage, is_write_fault, is_invalid, of_command_outcome, reply_failed, reported, run_far, run_says}
use Rattle.md_top.proofs.Exact.{info_right, run_right, run_right_with}
use Rattle.md_top.proofs.Found.{leaves_other, no_reply, none_found, ready_ends, right_lines, right_other, right_run, right_script}

-- ALL OF THEM

is_asked : (command : Command) → Some command ≡ None → ⊥
is_asked command same = cc

-- a command line that asks for nothing, or out of memory for it
neither : (status n : ℕ) → (status ≡ 2) ⊎ (status ≡ 10) → status ≡ n → n ≢ 2 → n ≢ 10 → ⊥
neither status n (inl two) is not_two not_ten = not_two (sym is ∙ two)
neither status n (inr ten) is not_two not_ten = not_ten (sym is ∙ ten)

right_none : (files : Files) (verdict : Verdict) (outcome : Outcome) (status : ℕ) → (status ≡ 2) ⊎ (status ≡ 10) → IsRight None files verdict outcome status ⊎ (status ≡ 10)
right_none files verdict outcome status (inl two) = inl (none_found, inl (tt, tt, tt), two)
right_none files verdict outcome status (inr ten) = inr ten

pub none_causes : (observable : Type 0) (old : DepotState) (out out' : SinkState) (status : ℕ) → (status ≡ 2) ⊎ (status ≡ 10) → Causes observable None old old out out' status
none_causes observable old out out' status which = record {
  usage = λ is. refl;
  refused = λ is. which;
  too_far = λ eleven. neither status 11 which eleven (λ is. omega (arith, is)) (λ is. omega (arith, is));
  far_refused = λ far. absurd far;
  read_fault = λ three. absurd (neither status 3 which three (λ is. omega (arith, is)) (λ is. omega (arith, is)));
  invalid = λ six. absurd (neither status 6 which six (λ is. omega (arith, is)) (λ is. omega (arith, is)));
  state_invalid = λ seven. absurd (neither status 7 which seven (λ is. omega (arith, is)) (λ is. omega (arith, is)));
  other_cart = λ eight. absurd (neither status 8 which eight (λ is. omega (arith, is)) (λ is. omega (arith, is)));
  behind = λ nine. absurd (neither status 9 which nine (λ is. omega (arith, is)) (λ is. omega (arith, is)));
  input_refused = λ seventeen. absurd (neither status 17 which seventeen (λ is. omega (arith, is)) (λ is. omega (arith, is)));
  source_refused = λ sixteen. absurd (neither status 16 which sixteen (λ is. omega (arith, is)) (λ is. omega (arith, is)));
  script_refused = λ fifteen. absurd (neither status 15 which fifteen (λ is. omega (arith, is)) (λ is. omega (arith, is)));
  line_refused = λ eighteen. absurd (neither status 18 which eighteen (λ is. omega (arith, is)) (λ is. omega (arith, is)));
  write_fault = λ four. absurd (neither status 4 which four (λ is. omega (arith, is)) (λ is. omega (arith, is)));
  out_fault = λ thirteen. absurd (neither status 13 which thirteen (λ is. omega (arith, is)) (λ is. omega (arith, is)));
  exact = λ clean t verdict is outcome known. right_none old.files verdict outcome status which;
  complete = λ clean t ready. absurd ready;
  others = λ t. tt;
}

-- what is shown of an outcome by the proofs of its command
record Explained (observable : Type 0) (command : Command) (old new : DepotState) (out out' : SinkState) (command_outcome : CommandOutcome) : Type 0 where
  says : Says observable command old new command_outcome
  reply : command_outcome ≡ ReplyFault → Rose out.faults out'.faults
  far : last_cycle < end_of command → (status_of command_outcome ≡ 11) ⊎ (status_of command_outcome ≡ 10)
  right : NoFaults old new out out' → observable → (verdict : Verdict) → IsValidated (input_of command Recording) old.files verdict
      → (outcome : Outcome) → IsInputOutcome (conversion_in command) old.files outcome
      → IsRight (Some command) old.files verdict outcome (status_of command_outcome) ⊎ (status_of command_outcome ≡ 10)
  ready : NoFaults old new out out' → observable → IsReady command old.files → (status_of command_outcome ≡ 0) ⊎ (status_of command_outcome ≡ 10)
  others : observable → (name : List ℕ) → ((which : Output) → output_of command which ≢ Some name) → new.files name ≡ old.files name

-- a refusal is no status of a sink that failed
kept_status : (status of : ℕ) {P : Type 0} → (status ≡ of) ⊎ ((of ≡ 0) × (status ≡ 13) × P) → (of ≡ 11) ⊎ (of ≡ 10) → (status ≡ 11) ⊎ (status ≡ 10)
kept_status status of (inl same) (inl is) = inl (same ∙ is)
kept_status status of (inl same) (inr memory) = inr (same ∙ memory)
kept_status status of (inr part) (inl is) = absurd (omega (arith, part.0, is))
kept_status status of (inr part) (inr memory) = absurd (omega (arith, part.0, memory))

-- from it the answers one by one
module _ (observable : Type 0) (command : Command) (old new : DepotState) (out out' : SinkState) (status : ℕ) (command_outcome : CommandOutcome) (by : IsOf status command_outcome out out')
    (found : Explained observable command old new out out' command_outcome) where
  as_command_outcome : (n : ℕ) → status ≡ n → (n ≡ 13 → ⊥) → status_of command_outcome ≡ n
  as_command_outcome n is other = of_command_outcome status command_outcome out out' n by is other

  said : (is : CommandOutcome) → command_outcome ≡ is → Says observable command old new is
  said is same = subst (Says observable command old new) same found.says

  -- without a fault the status is the outcome's
  clean_status : ¬ Rose out.faults out'.faults → status ≡ status_of command_outcome
  clean_status clean = elim by [
    | inl same ↦ same
    | inr part ↦ absurd (clean part.2)
  ]

  failed : status ≡ 13 → Rose out.faults out'.faults
  failed is = elim by [
    | inl same ↦ found.reply (is_reply_fault command_outcome (sym same ∙ is))
    | inr part ↦ part.2
  ]

  causes_by : Causes observable (Some command) old new out out' status
  causes_by = record {
    usage = λ two. absurd (said Usage (is_usage command_outcome (as_command_outcome 2 two (λ is. omega (arith, is)))));
    refused = λ none. absurd (is_asked command none);
    too_far = λ eleven. said TooFar (is_far command_outcome (as_command_outcome 11 eleven (λ is. omega (arith, is))));
    far_refused = λ far. kept_status status (status_of command_outcome) by (found.far far);
    read_fault = λ three. let is = is_read_fault command_outcome (as_command_outcome 3 three (λ is. omega (arith, is))) in said (ReadFault is.0) is.1;
    invalid = λ six. let is = is_invalid command_outcome (as_command_outcome 6 six (λ is. omega (arith, is))) in said (RecordingInvalid is.0) is.1;
    state_invalid = λ seven. let is = is_state_invalid command_outcome (as_command_outcome 7 seven (λ is. omega (arith, is))) in said (StateInvalid is.0) is.1;
    other_cart = λ eight. let is = is_other_cart command_outcome (as_command_outcome 8 eight (λ is. omega (arith, is))) in said (OtherCart is.0 is.1) is.2;
    behind = λ nine. let is = is_behind command_outcome (as_command_outcome 9 nine (λ is. omega (arith, is))) in said (Behind is.0) is.1;
    input_refused = λ seventeen. let is = is_input_refused command_outcome (as_command_outcome 17 seventeen (λ is. omega (arith, is))) in said (InputRefused is.0) is.1;
    source_refused = λ sixteen. let is = is_source_refused command_outcome (as_command_outcome 16 sixteen (λ is. omega (arith, is))) in said (SourceRefused is.0 is.1) is.2;
    script_refused = λ fifteen. let is = is_script_refused command_outcome (as_command_outcome 15 fifteen (λ is. omega (arith, is))) in said (ScriptRefused is.0 is.1) is.2;
    line_refused = λ eighteen. let is = is_line_refused command_outcome (as_command_outcome 18 eighteen (λ is. omega (arith, is))) in said (LineRefused is.0 is.1) is.2;
    write_fault = λ four. let is = is_write_fault command_outcome (as_command_outcome 4 four (λ is. omega (arith, is))) in said (WriteFault is.0) is.1;
    out_fault = λ thirteen. failed thirteen;
    exact = λ clean t verdict is outcome known.
        subst (λ (n : ℕ). IsRight (Some command) old.files verdict outcome n ⊎ (n ≡ 10)) (sym (clean_status clean.puts)) (found.right clean t verdict is outcome known);
    complete = λ clean t ready. subst (λ (n : ℕ). (n ≡ 0) ⊎ (n ≡ 10)) (sym (clean_status clean.puts)) (found.ready clean t ready);
    others = found.others;
  }

-- command by command
explained : (observable sink : Type 0) (command : Command) (old new : DepotState) (out between out' : SinkState) (status : ℕ) (command_outcome : CommandOutcome)
    → HasCause observable (Some command) old new command_outcome → (observable → LeavesFiles (Some command) old.files new.files command_outcome)
    → Shows observable sink (Some command) old.files command_outcome out between → Reports sink (Some command) command_outcome between out' status → Explained observable command old new out out' command_outcome
explained observable sink (Info rom) old new out between out' status command_outcome cause leaves shown reports = record {
  says = info_says observable rom old new command_outcome cause;
  reply = no_reply (InfoEnds observable rom old new) command_outcome cause (λ none. none);
  far = λ far. absurd (omega (arith, far));
  right = λ clean t verdict is outcome known.
      right_other (Some (Info rom)) old.files verdict outcome (status_of command_outcome) (inl (tt, tt, tt)) (info_right observable rom old new verdict none_found outcome command_outcome cause clean.reads t);
  ready = λ clean t ready.
      ready_ends (status_of command_outcome) (status_of (right_completion (Some (Info rom)) old.files (Spelled no_frames) none_found (Made [])))
      (info_right observable rom old new (Spelled no_frames) none_found (Made []) command_outcome cause clean.reads t)
      (ap status_of (right_accepted (old.files rom) (Shown (header_lines (cart_of rom old.files))) ready));
  others = λ t name apart. ap (λ (files : Files). files name) (leaves t);
}
explained observable sink (RunCart run) old new out between out' status command_outcome cause leaves shown reports = record {
  says = run_says observable run old new command_outcome cause;
  reply = no_reply (RunEnds observable run old new) command_outcome cause (λ none. none.1);
  far = run_far observable run old new command_outcome cause;
  right = λ clean t verdict is outcome known.
      right_run run old.files verdict outcome (status_of command_outcome) (run_right_with observable run old new verdict command_outcome cause is clean.reads clean.writes t);
  ready = λ clean t ready.
      let begins = ready.1.1 in
      let verdict = Spelled begins.inputs.recording in
      let state = Keeps ready.1.0 in
      let is = recording_validated run.recording old.files begins.inputs.recording begins.are.recording in
      let validated = state_validated run old.files verdict begins.inputs ready.1.0 begins.are is begins.with in
      ready_ends (status_of command_outcome) (status_of (asked_command_outcome run old.files verdict state)) (run_right observable run old new verdict state command_outcome cause is validated clean.reads clean.writes t)
      (right_done run old.files verdict state ready.1.0 ready.0.1 ready.1.2 begins is validated);
  others = λ t name apart. leaves_other run old.files new.files command_outcome (leaves t) name apart;
}
explained observable sink (RunDemo demo) old new out between out' status command_outcome (same, ends) leaves shown reports = record {
  says = demo_says observable demo old new command_outcome ends;
  reply = no_reply (DemoEnds demo) command_outcome ends (λ none. none);
  far = demo_far demo command_outcome ends;
  right = λ clean t verdict is outcome known.
      right_other (Some (RunDemo demo)) old.files verdict outcome (status_of command_outcome) (inl (tt, tt, tt)) (demo_right demo old.files verdict none_found outcome command_outcome ends);
  ready = λ clean t ready.
      ready_ends (status_of command_outcome) (status_of (right_completion (Some (RunDemo demo)) old.files (Spelled no_frames) none_found (Made [])))
      (demo_right demo old.files (Spelled no_frames) none_found (Made []) command_outcome ends) (right_demo_done demo old.files (Spelled no_frames) none_found (Made []) ready);
  others = λ t name apart. ap (λ (files : Files). files name) (leaves t);
}
explained observable sink (Convert conversion) old new out between out' status command_outcome cause leaves shown reports = record {
  says = convert_says observable conversion old new command_outcome cause;
  reply = no_reply (ConvertEnds observable conversion old new) command_outcome cause (λ none. none);
  far = λ far. absurd (omega (arith, far));
  right = λ clean t verdict is outcome known.
      right_other (Some (Convert conversion)) old.files verdict outcome (status_of command_outcome) (inl (tt, tt, tt))
      (convert_right observable conversion old new outcome command_outcome cause known clean.reads clean.writes t);
  ready = λ clean t ready.
      let known = made_outcome conversion (old.files conversion.input) ready.0 ready.1.0 in
      ready_ends (status_of command_outcome) (status_of (convert_command_outcome conversion old.files (Made ready.0)))
      (convert_right observable conversion old new (Made ready.0) command_outcome cause known clean.reads clean.writes t) (convert_done conversion (old.files conversion.input) ready.0 ready.1.0);
  others = λ t name apart. converted_other conversion old.files new.files command_outcome (leaves t) name (λ same. apart Target (ap Some same));
}
explained observable sink (Assemble words) old new out between out' status command_outcome cause leaves shown reports = record {
  says = asm_says observable words old new command_outcome cause;
  reply = no_reply (AsmEnds observable words old new) command_outcome cause (λ none. none);
  far = λ far. absurd (omega (arith, far));
  right = λ clean t verdict is outcome known.
      right_other (Some (Assemble words)) old.files verdict outcome (status_of command_outcome) (inl (tt, tt, tt)) (asm_right observable words old new command_outcome cause clean.reads clean.writes t);
  ready = λ clean t ready.
      ready_ends (status_of command_outcome) (status_of (asm_command_outcome words old.files)) (asm_right observable words old new command_outcome cause clean.reads clean.writes t)
      (asm_done (old.files words.source) ready.0 ready.1 ready.2);
  others = λ t name apart. assembled_other words old.files new.files command_outcome (leaves t) name (λ same. apart Target (ap Some same)) (apart Listing);
}
explained observable sink (Debug words) old new out between out' status command_outcome cause leaves shown reports =
    let failed = reply_failed observable sink words old.files command_outcome out between out' status shown reports in
    record {
      says = debug_says observable words old new command_outcome cause;
      reply = failed;
      far = λ far. absurd (omega (arith, far));
      right = λ clean t verdict is outcome known.
          right_script words old.files verdict outcome (status_of command_outcome) (debug_right observable words old new command_outcome cause (λ is. clean.puts (failed is)) clean.reads t);
      ready = λ clean t ready. debug_done observable words old new command_outcome ready cause (λ is. clean.puts (failed is)) clean.reads t;
      others = λ t name apart. ap (λ (files : Files). files name) (leaves t);
    }
explained observable sink (Rollback words) old new out between out' status command_outcome cause leaves shown reports = record {
  says = roll_says observable words old new command_outcome cause;
  reply = no_reply (RollEnds observable words old new) command_outcome cause (λ none. none);
  far = λ far. absurd (omega (arith, far));
  right = λ clean t verdict is outcome known. right_lines words old.files verdict outcome (status_of command_outcome) (roll_right observable words old new command_outcome cause clean.reads t);
  ready = λ clean t ready. roll_done observable words old new command_outcome ready cause clean.reads t;
  others = λ t name apart. ap (λ (files : Files). files name) (leaves t);
}

pub causes_of : (observable sink : Type 0) (command : Command) (old new : DepotState) (out between out' : SinkState) (status : ℕ) (command_outcome : CommandOutcome)
    → HasCause observable (Some command) old new command_outcome → (observable → LeavesFiles (Some command) old.files new.files command_outcome)
    → Shows observable sink (Some command) old.files command_outcome out between → Reports sink (Some command) command_outcome between out' status → Causes observable (Some command) old new out out' status
causes_of observable sink command old new out between out' status command_outcome cause leaves shown reports =
    causes_by observable command old new out out' status command_outcome (reported observable sink (Some command) old.files command_outcome out between out' status shown reports)
    (explained observable sink command old new out between out' status command_outcome cause leaves shown reports)

-- out of memory for the words
memory_cause : (observable : Type 0) (command : Option Command) (old : DepotState) → HasCause observable command old old Memory
memory_cause observable None old = tt
memory_cause observable (Some (Info rom)) old = tt
memory_cause observable (Some (RunCart run)) old = tt
memory_cause observable (Some (RunDemo demo)) old = (refl, tt)
memory_cause observable (Some (Convert conversion)) old = tt
memory_cause observable (Some (Assemble words)) old = tt
memory_cause observable (Some (Debug words)) old = tt
memory_cause observable (Some (Rollback words)) old = tt

memory_leaves : (command : Option Command) (files : Files) → LeavesFiles command files files Memory
memory_leaves None files = refl
memory_leaves (Some (Info rom)) files = refl
memory_leaves (Some (RunDemo demo)) files = refl
memory_leaves (Some (Convert conversion)) files = refl
memory_leaves (Some (Assemble words)) files = inl refl
memory_leaves (Some (Debug words)) files = refl
memory_leaves (Some (Rollback words)) files = refl
memory_leaves (Some (RunCart run)) files = record {
  parts = record { frames = None; sound = None; journal = None; state = None };
  frames = tt;
  sound = tt;
  journal = tt;
  state = tt;
  files = refl;
}

memory_shown : (observable sink : Type 0) (command : Option Command) (files : Files) (out : SinkState) → Shows observable sink command files Memory out out
memory_shown observable sink None files out = refl
memory_shown observable sink (Some (Info rom)) files out = refl
memory_shown observable sink (Some (RunCart run)) files out = refl
memory_shown observable sink (Some (RunDemo demo)) files out = refl
memory_shown observable sink (Some (Convert conversion)) files out = refl
memory_shown observable sink (Some (Assemble words)) files out = refl
memory_shown observable sink (Some (Debug words)) files out = refl
memory_shown observable sink (Some (Rollback words)) files out = refl

memory_reports : (sink : Type 0) (command : Option Command) (out out' : SinkState) (status : ℕ) → status ≡ 10
    → PutsAll sink (codes "refused: memory\n") out out' ⊎ PutsPart sink (codes "refused: memory\n") out out' → Reports sink command Memory out out' status
memory_reports sink None out out' status ten put = line_of sink (codes "refused: memory\n") 10 out out' status ten refl put
memory_reports sink (Some command) out out' status ten put = line_of sink (codes "refused: memory\n") 10 out out' status ten refl put

pub memory_answers : (observable sink : Type 0) (command : Option Command) (old : DepotState) (out out' : SinkState) (status : ℕ) → status ≡ 10
    → PutsAll sink (codes "refused: memory\n") out out' ⊎ PutsPart sink (codes "refused: memory\n") out out' → Answers observable sink command old old out out' status
memory_answers observable sink command old out out' status ten put = record {
  command_outcome = Memory;
  cause = memory_cause observable command old;
  files = λ t. memory_leaves command old.files;
  between = out;
  shown = memory_shown observable sink command old.files out;
  reports = memory_reports sink command out out' status ten put;
}

pub memory_causes : (observable sink : Type 0) (command : Option Command) (old : DepotState) (out out' : SinkState) (status : ℕ) → status ≡ 10
    → PutsAll sink (codes "refused: memory\n") out out' ⊎ PutsPart sink (codes "refused: memory\n") out out' → Causes observable command old old out out' status
memory_causes observable sink None old out out' status ten put = none_causes observable old out out' status (inr ten)
memory_causes observable sink (Some command) old out out' status ten put =
    causes_of observable sink command old old out out out' status Memory (memory_cause observable (Some command) old) (λ t. memory_leaves (Some command) old.files)
    (memory_shown observable sink (Some command) old.files out)
    (memory_reports sink (Some command) out out' status ten put)
