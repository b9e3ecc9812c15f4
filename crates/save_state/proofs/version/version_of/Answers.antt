use Rattle.save_state.specs.Versions.{other_size}
use Rattle.save_state.specs.declared.version.Version.TheVariants.{First, Second, Third}
use Rattle.save_state.proofs.version.version_of.Goals as goal

pub returns-then-bytes-ne-LENGTH-clause-none : goal.returns-then-bytes-ne-LENGTH-clause-none
returns-then-bytes-ne-LENGTH-clause-none c = other_size Third (c.begins_with.ensures.0 c.if-begins_with.true) c.if-bytes-ne-LENGTH.true c.min.ensures

pub returns-then-bytes-ne-SECOND_LENGTH-clause-none : goal.returns-then-bytes-ne-SECOND_LENGTH-clause-none
returns-then-bytes-ne-SECOND_LENGTH-clause-none c =
    other_size Second (c.begins_with-2.ensures.0 c.if-begins_with-2.true) c.if-bytes-ne-SECOND_LENGTH.true c.min-then-bytes-ne-SECOND_LENGTH.ensures

pub returns-then-bytes-ne-FIRST_LENGTH-clause-none : goal.returns-then-bytes-ne-FIRST_LENGTH-clause-none
returns-then-bytes-ne-FIRST_LENGTH-clause-none c =
    other_size First (c.begins_with-3.ensures.0 c.if-begins_with-3.true) c.if-bytes-ne-FIRST_LENGTH.true c.min-then-bytes-ne-FIRST_LENGTH.ensures
