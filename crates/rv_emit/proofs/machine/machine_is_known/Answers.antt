use Rattle.rv_emit.proofs.machine.machine_is_known.Goals as goal

pub returns : goal.returns
returns c = record {
  none = c.runs_lead.ensures.none;
  line = c.runs_lead.ensures.line;
  steps = c.runs_lead.ensures.steps;
  kept = c.free_lines_keep.ensures.kept;
  there = c.pieces_stand.ensures.line;
  front = c.pieces_stand.ensures.front;
  back = c.pieces_stand.ensures.back;
  stands = c.pieces_stand.ensures.stands;
  goes = c.lines_take_steps.ensures.line;
  taken = c.lines_take_steps.ensures.taken;
  not_taken = c.lines_take_steps.ensures.not_taken;
  addi = c.pointers_move.ensures.addi;
  add = c.pointers_move.ensures.add;
  shift = c.pointers_move.ensures.slli;
  load = c.words_are_moved.ensures.load;
  store = c.words_are_moved.ensures.store;
  constant = c.constants_are_set.ensures.leads;
  zero = c.registers_are_kept.ensures.zero;
  set = c.registers_are_kept.ensures.same;
  unset = c.registers_are_kept.ensures.other;
  count = c.registers_are_kept.ensures.len;
  agree = c.registers_agree.ensures.none;
  agree_one = c.registers_agree.ensures.one;
  agree_again = c.registers_agree.ensures.again;
  word = c.memory_is_kept.ensures.same;
  other_word = c.memory_is_kept.ensures.other_word;
  small_word = c.bytes_are_kept.ensures.word;
  sized = c.memory_is_kept.ensures.len;
  bytes = c.bytes_are_kept.ensures.bytes;
  value = c.area_words_are_set.ensures.value;
  inside = c.area_words_are_set.ensures.inside;
  outside = c.area_words_are_set.ensures.outside;
  natural = c.numbers_wrap.ensures.natural;
  signed = c.numbers_wrap.ensures.signed;
  below = c.numbers_wrap.ensures.below;
  sum = c.numbers_wrap.ensures.sum;
  reach = c.addresses_have_offsets.ensures.wrapped;
  place = c.addresses_have_offsets.ensures.place;
}
