use Rattle.std.proofs.Common.{◌<◌, ◌≤◌, subst, arith}
use Rattle.rv_line.specs.Parts.{Parts}
use Rattle.psi_top.specs.Line.{greatest_block}
use Rattle.psi_top.specs.Outcome.{words_of_block}
use Rattle.psi_top.proofs.RunLemmas.{over_full}
use Rattle.psi_top.proofs.execute.program_of.Goals as goal

pub returns-then-words-gt-GREATEST_BLOCK-clause-refused : goal.returns-then-words-gt-GREATEST_BLOCK-clause-refused
returns-then-words-gt-GREATEST_BLOCK-clause-refused c = λ other rest.
    let text = c.args.text.now in
    let read = c.in-Ok.ensures.read in
    let full : greatest_block < words_of_block c.in-Ok.program = omega (arith, c.block_words-words.ensures, c.if-words-gt-GREATEST_BLOCK.true) in
    rw c.block_words-words.ensures (over_full c.args.name.now rest text c.in-Ok.program (c.spelled_texts_are_not_refused.ensures text c.in-Ok.program read) (c.each_text_spells_or_is_refused.ensures.parts text c.in-Ok.program read) full)

pub returns-else-words-gt-GREATEST_BLOCK-clause-runnable : goal.returns-else-words-gt-GREATEST_BLOCK-clause-runnable
returns-else-words-gt-GREATEST_BLOCK-clause-runnable c =
    let text = c.args.text.now in
    let read = c.in-Ok.ensures.read in
    let room : words_of_block c.in-Ok.program ≤ greatest_block = omega (arith, c.block_words-words.ensures, c.if-words-gt-GREATEST_BLOCK.false) in
    record {
      short = c.requires;
      spelled = c.spelled_texts_are_not_refused.ensures text c.in-Ok.program read;
      room = subst (λ (p : Parts). words_of_block p ≤ greatest_block) (c.each_text_spells_or_is_refused.ensures.parts text c.in-Ok.program read) room;
    }

pub returns-else-words-gt-GREATEST_BLOCK-clause-parts : goal.returns-else-words-gt-GREATEST_BLOCK-clause-parts
returns-else-words-gt-GREATEST_BLOCK-clause-parts c = c.each_text_spells_or_is_refused.ensures.parts c.args.text.now c.in-Ok.program c.in-Ok.ensures.read
