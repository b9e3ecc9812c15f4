use Rattle.std.proofs.Common.{◌≡◌, ◌-◌, ◌*◌, ◌≤◌}
use Rattle.arrayvec.specs.ArrayVec.{array_vec_len}
use Rattle.m68k_access.specs.Clauses.{done_of, memory_of}
use Rattle.m68k_exec.specs.Rows.Movem.{places, places_in, store_each}
use Rattle.m68k_exec.proofs.rows.movem.stores.store_each.Given as goal

-- the turns that are left store what is left to store
abbrev pub invariant-registers : goal.invariant-registers
invariant-registers l = record {
  written : array_vec_len l.progress.writes ≤ 4 * l.place;
  rest : store_each l.order l.size (places (16 - l.place) l.left l.place) l.address l.regs (memory_of l.context) (done_of l.progress) ≡ store_each l.order l.size (places_in l.list) l.at l.regs (memory_of l.context) (done_of l.fn.progress);
}
