use Rattle.scheduler_tests.proofs.locks.first_turn.Given as goal

abbrev pub ghosts-first_section-N-RunName : goal.ghosts-first_section-N-RunName
ghosts-first_section-N-RunName g a = record { base = g.C.ChipSet.code_of a.core; end = a.t; room = a.core.room }

abbrev pub ghosts-first_section-L0-Ledger : goal.ghosts-first_section-L0-Ledger
ghosts-first_section-L0-Ledger g a = record { name = a.blanks.l0.name; parts = a.blanks.l0.parts }

abbrev pub ghosts-first_section-L1-Ledger : goal.ghosts-first_section-L1-Ledger
ghosts-first_section-L1-Ledger g a = record { name = a.blanks.l1.name; parts = a.blanks.l1.parts }

abbrev pub ghosts-first_section-L2-Ledger : goal.ghosts-first_section-L2-Ledger
ghosts-first_section-L2-Ledger g a = record { name = a.blanks.l2.name; parts = a.blanks.l2.parts }

abbrev pub ghosts-first_section-L3-Ledger : goal.ghosts-first_section-L3-Ledger
ghosts-first_section-L3-Ledger g a = record { name = a.blanks.l3.name; parts = a.blanks.l3.parts }

abbrev pub ghosts-first_section-L4-Ledger : goal.ghosts-first_section-L4-Ledger
ghosts-first_section-L4-Ledger g a = record { name = a.blanks.l4.name; parts = a.blanks.l4.parts }
