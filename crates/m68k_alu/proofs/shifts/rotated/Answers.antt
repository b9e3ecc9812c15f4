use Rattle.std.proofs.Common.{◌≡◌, ◌-◌, ◌*◌, ◌%◌, ◌^◌, ◌≤◌, arith}
use Rattle.m68k_alu.proofs.Rotation.{power_fits, rotated_below}
use Rattle.m68k_alu.proofs.shifts.rotated.Goals as goal

pub returns-clause-below : goal.returns-clause-below
returns-clause-below c =
    let within = rotated_below c.args.width c.args.count c.args.number c.requires.count c.requires.number in
    let fits : 2 ^ c.args.width ≤ 0x2_0000_0000 = power_fits c.args.width c.requires.width in
    let lower : 2 ^ (c.args.width - c.args.count) ≤ 0x2_0000_0000 = power_fits (c.args.width - c.args.count) (omega arith) in
    let power : 1 * 2 ^ (c.args.width - c.args.count) % 18446744073709551616 ≡ 2 ^ (c.args.width - c.args.count) = omega arith in
    rw power (omega arith)
