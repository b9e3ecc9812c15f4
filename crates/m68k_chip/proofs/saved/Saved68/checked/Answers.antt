use Rattle.std.proofs.Common.{◌≡◌, ℕ, true, List, None, subst, sym, ap, ◌∙◌, arith}
use Rattle.md_fields.specs.Fields.{sizes, first_invalid}
use Rattle.m68k_exec.specs.declared.sample.step.Predicted.{Predicted}
use Rattle.m68k_chip.specs.Held.{WaitsFor}
use Rattle.m68k_chip.specs.Numbers.{Numbers68, state_from}
use Rattle.m68k_chip.specs.Resuming.{asks_more}
use Rattle.m68k_chip.specs.Saved.{fields_by}
use Rattle.m68k_chip.specs.Spelling.{Spells, ram_in}
use Rattle.m68k_chip.specs.States.{state_of}
use Rattle.m68k_chip.proofs.SavedLaws.{count_few, rules_of}
use Rattle.m68k_chip.proofs.SpellingLaws.{breaks, breaks_ram, fields_size, keeps, right, spelled_by}
use Rattle.m68k_chip.proofs.saved.Saved68.checked.Goals as goal

pub first_invalid-requires : goal.first_invalid-requires
first_invalid-requires c = omega (arith, ap sizes c.fields.ensures.fields ∙ fields_size c.args.at true c.read-saved.result)

pub returns-in-Some-clause-refused : goal.returns-in-Some-clause-refused
returns-in-Some-clause-refused c =
    breaks c.args.cart.now c.args.at c.args.bytes.now c.read-saved.result (λ i. omega (arith, c.type_inv.bytes i)) c.read-saved.ensures.stands c.in-Some.place
    (ap (first_invalid 0) (sym c.fields.ensures.fields) ∙ sym c.first_invalid.ensures ∙ c.in-Some.is)

pub sequencer-sequencer-requires : goal.sequencer-sequencer-requires
sequencer-sequencer-requires c =
    count_few c.args.at true c.read-saved.result
    (rules_of c.args.at true c.read-saved.result (ap (first_invalid 0) (sym c.fields.ensures.fields) ∙ sym c.first_invalid.ensures ∙ c.in_default.is))

pub returns-then-resumes-clause-found : goal.returns-then-resumes-clause-found
returns-then-resumes-clause-found c =
    let n : Numbers68 = c.read-saved.result in
    let ram : c.saved.inside.ram.now ≡ n.ram = ap (λ (x : Numbers68). x.ram) c.saved.view_is in
    let none : first_invalid 0 (fields_by c.args.at true n) ≡ None = ap (first_invalid 0) (sym c.fields.ensures.fields) ∙ sym c.first_invalid.ensures ∙ c.in_default.is in
    let state : state_of c.sequencer-sequencer.result c.saved.inside.ram.now ≡ state_from n = ap (state_of c.sequencer-sequencer.result) ram ∙ c.sequencer-sequencer.ensures.state in
    let asks : asks_more c.args.cart.now (state_from n) ≡ true = sym (c.resumes.ensures.value ∙ ap (asks_more c.args.cart.now) state) ∙ c.if-resumes.true in
    let made : state_of c.resumes.new.self (ram_in c.args.bytes.now) ≡ state_from n =
    c.resumes.ensures.state (ram_in c.args.bytes.now) ∙ ap (state_of c.sequencer-sequencer.result) (sym c.read-saved.ensures.ram) ∙ c.sequencer-sequencer.ensures.state in
    record {
      spelled = subst (Spells c.args.cart.now c.args.at c.args.bytes.now) (sym made)
          (spelled_by c.args.cart.now c.args.at c.args.bytes.now n
          (keeps c.args.cart.now c.args.at c.args.bytes.now n (λ i. omega (arith, c.type_inv.bytes i)) c.read-saved.ensures.stands)
          (right c.args.cart.now c.args.at c.args.bytes.now n (λ i. omega (arith, c.type_inv.bytes i)) c.read-saved.ensures.stands none asks));
      waits = subst (λ (r : List ℕ). WaitsFor c.resumes.new.self.stage c.args.cart.now (state_of c.resumes.new.self r) c.resumes.new.self.request) (ram ∙ c.read-saved.ensures.ram)
          (c.resumes.ensures.waiting c.if-resumes.true);
      unknown = ap (λ (f : Predicted). f.known) c.resumes.ensures.predicted ∙ c.sequencer-sequencer.ensures.unknown;
    }

pub returns-else-resumes-clause-refused : goal.returns-else-resumes-clause-refused
returns-else-resumes-clause-refused c =
    let n : Numbers68 = c.read-saved.result in
    let ram : c.saved.inside.ram.now ≡ n.ram = ap (λ (x : Numbers68). x.ram) c.saved.view_is in
    let none : first_invalid 0 (fields_by c.args.at true n) ≡ None = ap (first_invalid 0) (sym c.fields.ensures.fields) ∙ sym c.first_invalid.ensures ∙ c.in_default.is in
    let state : state_of c.sequencer-sequencer.result c.saved.inside.ram.now ≡ state_from n = ap (state_of c.sequencer-sequencer.result) ram ∙ c.sequencer-sequencer.ensures.state in
    breaks_ram c.args.cart.now c.args.at c.args.bytes.now n (λ i. omega (arith, c.type_inv.bytes i)) c.read-saved.ensures.stands none
    (sym (c.resumes.ensures.value ∙ ap (asks_more c.args.cart.now) state) ∙ c.if-resumes.false)
