use Rattle.vdp_ports.proofs.state.VdpState.known.Goals as goal

pub returns : goal.returns
returns c = record {
  sizes = c.known_memories.ensures.sizes;
  cram = c.known_memories.ensures.cram;
  vsram = c.known_memories.ensures.vsram;
  code = c.known_port.ensures.code;
  a = c.known_port.ensures.a;
  dma_kind = c.known_dma.ensures.dma_kind;
  byte = c.known_dma.ensures.byte;
  source = c.known_dma.ensures.source;
  address = c.known_dma.ensures.address;
  left = c.known_dma.ensures.left;
  next_stamp = c.known_dma.ensures.next_stamp;
  line_counter = c.known_port.ensures.line_counter;
  int_from = c.known_interval.ensures.int_from;
  int_to = c.known_interval.ensures.int_to;
}
