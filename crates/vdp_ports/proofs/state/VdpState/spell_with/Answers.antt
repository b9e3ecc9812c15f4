use Rattle.std.proofs.Common.{◌++◌, List, ℕ, false, ap, ◌∙◌, arith}
use Rattle.md_fields.specs.Fields.{spelling, sizes}
use Rattle.md_fields.proofs.Standing.{long_as_sized}
use Rattle.vdp_ports.specs.Numbers.{VdpNumbers}
use Rattle.vdp_ports.specs.Saved.{vdp_fields}
use Rattle.vdp_ports.proofs.SavedLaws.{fields_size, same_bytes}
use Rattle.vdp_ports.proofs.RuleLaws.{spelled_back}
use Rattle.vdp_ports.specs.Dma.{with_rest}
use Rattle.vdp_ports.proofs.state.VdpState.spell_with.Goals as goal

pub put-requires : goal.put-requires
put-requires c = omega (arith, long_as_sized _ c.fields.ensures.sizes ∙ ap sizes c.fields.ensures.fields ∙ fields_size c.args.at c.self.inside.pal c.with.result, c.requires)

pub returns-clause-bytes : goal.returns-clause-bytes
returns-clause-bytes c = c.put.ensures.bytes ∙ ap (λ (l : List ℕ). c.args.into.now.items ++ l) (ap spelling c.fields.ensures.fields ∙ same_bytes c.args.at 0 c.self.inside.pal false c.with.result ∙ ap (λ (n : VdpNumbers). spelling (vdp_fields 0 false n)) c.with.ensures)

pub returns-clause-length : goal.returns-clause-length
returns-clause-length c = omega (arith, c.put.ensures.length, long_as_sized _ c.fields.ensures.sizes ∙ ap sizes c.fields.ensures.fields ∙ fields_size c.args.at c.self.inside.pal c.with.result)

pub returns-clause-kept : goal.returns-clause-kept
returns-clause-kept c = λ is. spelled_back c.args.at (with_rest c.args.self.now c.args.vram.now c.args.rest) (record {
  sizes = record {
    of_registers = c.known_memories.ensures.sizes.of_registers;
    of_vram = c.known_size.ensures;
    of_cram = c.known_memories.ensures.sizes.of_cram;
    of_vsram = c.known_memories.ensures.sizes.of_vsram;
  };
  cram = c.known_memories.ensures.cram;
  vsram = c.known_memories.ensures.vsram;
  code = c.known_port.ensures.code;
  a = c.known_port.ensures.a;
  dma_kind = c.known_rest.ensures.dma_kind;
  byte = c.known_rest.ensures.byte;
  source = c.known_rest.ensures.source;
  address = c.known_rest.ensures.address;
  left = c.known_rest.ensures.left;
  next_stamp = c.known_rest.ensures.next_stamp;
  line_counter = c.known_port.ensures.line_counter;
  int_from = c.known_interval.ensures.int_from;
  int_to = c.known_interval.ensures.int_to;
}) is
