use Rattle.std.proofs.Common.{Err, ap}
use Rattle.md_top.proofs.Fetched.{invalid_cause}
use Rattle.md_top.proofs.reading.fetch_recording.Goals as goal

pub returns-in-Err-Form-clause-err : goal.returns-in-Err-Form-clause-err
returns-in-Err-Form-clause-err g c =
    invalid_cause g.D.Depot.observable c.args.name.now (g.D.Depot.state c.args.depot.now) (g.D.Depot.state c.fetch.new.self) c.in-Ok.bytes.items c.in-Err-Form.place
    c.in-Ok.ensures.bytes c.in-Ok.ensures.within (rw c.as_slice.ensures.value at ((c.in-Err-Form.ensures.form c.in-Err-Form.place).0 (ap Err c.in-Err-Form.field-0-is)))
