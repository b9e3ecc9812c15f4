use Rattle.std.proofs.Common.{◌≡◌, ◌-◌, ◌≤◌}
use Rattle.arrayvec.specs.ArrayVec.{array_vec_len}
use Rattle.m68k_access.specs.Clauses.{done_of, memory_of}
use Rattle.m68k_exec.specs.Rows.Movem.{load_each, places, places_in}
use Rattle.m68k_exec.proofs.rows.movem.loads.load_each.Given as goal

-- the turns that are left load what is left to load
abbrev pub invariant-registers : goal.invariant-registers
invariant-registers l = record {
  written : array_vec_len l.progress.writes ≤ array_vec_len l.fn.progress.writes;
  rest : load_each l.size (places (16 - l.place) l.left l.place) l.address l.regs (memory_of l.context) (done_of l.progress) ≡ load_each l.size (places_in l.list) l.at l.fn.regs (memory_of l.context) (done_of l.fn.progress);
}
