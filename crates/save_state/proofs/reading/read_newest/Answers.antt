use Rattle.std.proofs.Common.{arith}
use Rattle.std.specs.Arc.{arc_value}
use Rattle.save_state.proofs.ReadLaws.{fields_form, fields_only, fields_other, fields_invalid, read_found, read_only, read_pads, read_start, read_invalid}
use Rattle.save_state.proofs.reading.read_newest.Goals as goal

pub returns-in-Ok-clause-found : goal.returns-in-Ok-clause-found
returns-in-Ok-clause-found c =
    read_found c.args.version (arc_value c.args.cart) (arc_value c.args.recording) c.args.bytes.now c.in-Ok.machine (λ i. omega (arith, c.type_inv.bytes i)) c.requires.form c.requires.own c.in-Ok.ensures

pub returns-in-Ok-clause-start : goal.returns-in-Ok-clause-start
returns-in-Ok-clause-start c = read_start c.args.version (arc_value c.args.cart) (arc_value c.args.recording) c.args.bytes.now c.in-Ok.machine c.in-Ok.ensures

pub returns-in-Ok-clause-only : goal.returns-in-Ok-clause-only
returns-in-Ok-clause-only c = λ start old s pads n.
    read_only c.args.version (arc_value c.args.cart) (arc_value c.args.recording) c.args.bytes.now c.in-Ok.machine start c.in-Ok.ensures old s pads

pub returns-in-Ok-clause-invalid : goal.returns-in-Ok-clause-invalid
returns-in-Ok-clause-invalid c = λ place w n.
    absurd (read_invalid c.args.version (arc_value c.args.cart) (arc_value c.args.recording) c.args.bytes.now c.in-Ok.machine place c.in-Ok.ensures w)

pub returns-in-Err-clause-only : goal.returns-in-Err-clause-only
returns-in-Err-clause-only c = λ start old s pads n.
    fields_only c.args.version (arc_value c.args.cart) (arc_value c.args.recording) c.args.bytes.now c.in-Err.fault c.refusal_of.result start c.refusal_of.ensures c.in-Err.ensures old s pads n

pub returns-in-Err-clause-form : goal.returns-in-Err-clause-form
returns-in-Err-clause-form c = λ place e.
    fields_form c.args.version (arc_value c.args.cart) (arc_value c.args.recording) c.args.bytes.now c.in-Err.fault c.refusal_of.result place c.requires.own c.refusal_of.ensures c.in-Err.ensures e

pub returns-in-Err-clause-invalid : goal.returns-in-Err-clause-invalid
returns-in-Err-clause-invalid c = λ place w n.
    fields_invalid c.args.version (arc_value c.args.cart) (arc_value c.args.recording) c.args.bytes.now c.in-Err.fault c.refusal_of.result place c.refusal_of.ensures c.in-Err.ensures w n

pub returns-in-Err-clause-own : goal.returns-in-Err-clause-own
returns-in-Err-clause-own c = λ kept given e. fields_other c.args.version c.in-Err.fault c.refusal_of.result kept given c.refusal_of.ensures e

pub returns-in-Ok-clause-pads : goal.returns-in-Ok-clause-pads
returns-in-Ok-clause-pads c = read_pads c.args.version (arc_value c.args.cart) (arc_value c.args.recording) c.args.bytes.now c.in-Ok.machine c.in-Ok.ensures
