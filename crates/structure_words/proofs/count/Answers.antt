-- `structure_words::count` meets its contract: each word adds as many sets as it has bits set, and a word that is lacking adds none.
use Rattle.std.proofs.lemmas.Iterator.{YieldsList-from_slice, YieldsList-from_take}
use Rattle.std.proofs.lemmas.Iterator.Consumers.{YieldsList-turn, YieldsList-end}
use Rattle.std.proofs.lemmas.List.{length_push}
use Rattle.structure_words.proofs.Runs.{count_none, count_more, count_small, count_all}
use Rattle.structure_words.proofs.count.Goals as goal

pub loop-word-init : goal.loop-word-init
loop-word-init c = count_none c.args.words.now

pub overflow_add-sum : goal.overflow_add-sum
overflow_add-sum c =
    let items = YieldsList-from_take 1024 (YieldsList-from_slice c.args.words.now (cc)) (cc) in
    let next = YieldsList-turn items c.loop-word.yielded _ c.loop-word.yielded_by _ _ c.in-Some.word c.in-Some.is c.next.ensures.steps in
    record { fits = count_small c.args.words.now _ _ c.loop-word.invariant _ next (c.type_inv.words _) }

pub loop-word-preserved : goal.loop-word-preserved
loop-word-preserved c =
    let items = YieldsList-from_take 1024 (YieldsList-from_slice c.args.words.now (cc)) (cc) in
    let next = YieldsList-turn items c.loop-word.yielded _ c.loop-word.yielded_by _ _ c.in-Some.word c.in-Some.is c.next.ensures.steps in
    count_more c.args.words.now _ _ c.loop-word.invariant _ next (c.type_inv.words _) _ (length_push c.loop-word.yielded c.in-Some.word)

pub returns : goal.returns
returns c =
    let items = YieldsList-from_take 1024 (YieldsList-from_slice c.args.words.now (cc)) (cc) in
    count_all c.args.words.now _ _ c.loop-word.invariant
    (YieldsList-end items c.loop-word.yielded _ c.loop-word.yielded_by _ _ c.in-None.is c.next.ensures.steps).1
