use Rattle.chip_run.proofs.running.run_core.Given as goal

abbrev pub ghosts-run_named-N-RunName : goal.ghosts-run_named-N-RunName
ghosts-run_named-N-RunName g a = record { base = g.C.ChipSet.code_of a.core; end = a.t; room = a.core.room }

abbrev pub ghosts-run_named-L0-Ledger : goal.ghosts-run_named-L0-Ledger
ghosts-run_named-L0-Ledger g a = record { name = a.blanks.l0.name; parts = a.blanks.l0.parts }

abbrev pub ghosts-run_named-L1-Ledger : goal.ghosts-run_named-L1-Ledger
ghosts-run_named-L1-Ledger g a = record { name = a.blanks.l1.name; parts = a.blanks.l1.parts }

abbrev pub ghosts-run_named-L2-Ledger : goal.ghosts-run_named-L2-Ledger
ghosts-run_named-L2-Ledger g a = record { name = a.blanks.l2.name; parts = a.blanks.l2.parts }

abbrev pub ghosts-run_named-L3-Ledger : goal.ghosts-run_named-L3-Ledger
ghosts-run_named-L3-Ledger g a = record { name = a.blanks.l3.name; parts = a.blanks.l3.parts }

abbrev pub ghosts-run_named-L4-Ledger : goal.ghosts-run_named-L4-Ledger
ghosts-run_named-L4-Ledger g a = record { name = a.blanks.l4.name; parts = a.blanks.l4.parts }
