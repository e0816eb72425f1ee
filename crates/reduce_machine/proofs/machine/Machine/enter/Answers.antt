use Rattle.std.proofs.Common.{sym, ap, subst as along}
use Rattle.trees.specs.Tree.{terms_of}
use Rattle.pc_terms.specs.Lists.{arms_of}
use Rattle.reduce_machine.specs.declared.machine.Machine.{Machine}
use Rattle.reduce_machine.specs.Reducts.{IsLooked, AreReducts, AreWaiting}
use Rattle.reduce_machine.specs.Reads.{read}
use Rattle.reduce_machine.specs.declared.frames.Frame.TheVariants.{Argument, Scrutinee}
use Rattle.reduce_machine.specs.Sought.{IsKnownFocus}
use Rattle.reduce_machine.proofs.Keeping.{waiting_pushed, known_through, item_of}
use Rattle.reduce_machine.proofs.Layering.{app_entered, app_read, case_entered, case_read, item_read}
use Rattle.reduce_machine.proofs.machine.Machine.enter.Goals as goal

pub returns-in_ok-push-in-App-clause-grown : goal.returns-in_ok-push-in-App-clause-grown
returns-in_ok-push-in-App-clause-grown c =
    let e = rw c.in-App.is at c.view.ensures.is in
    let n : Machine = record { focus = record { term = c.in_ok-function-in-App.function; env = c.push.new.self.focus.env }; frames = c.push.new.self.frames } in
    (app_entered c.args.self.now n c.in-App.function c.in-App.argument c.in_ok-argument-in-App.argument c.requires.sound c.in_ok-push-in-App.ensures.ok (ap (λ l. l.env) c.in_ok-push-in-App.ensures.focus) c.in_ok-function-in-App.ensures.ok e c.in_ok-argument-in-App.ensures.ok).grown

pub returns-in_ok-push-in-Case-clause-grown : goal.returns-in_ok-push-in-Case-clause-grown
returns-in_ok-push-in-Case-clause-grown c =
    let e = rw c.in-Case.is at c.view.ensures.is in
    let n : Machine = record { focus = c.in_ok-scrutinee-in-Case.scrutinee; frames = c.push-in-Case.new.self.frames } in
    (case_entered c.args.self.now n c.in-Case.m.family (terms_of c.in-Case.m.params) c.in-Case.m.binders c.in-Case.m.ret c.in-Case.m.scrut (arms_of c.in-Case.m.branches) c.in_ok-outer-in-Case.outer c.requires.sound
    c.in_ok-push-in-Case.ensures.ok c.in_ok-outer-in-Case.ensures.ok e (rw c.get-m.ensures.is at c.in_ok-scrutinee-in-Case.ensures.ok) c.in_ok-scrutinee-in-Case.ensures.rank).grown

pub returns-in_ok-push-in-App-clause-sound : goal.returns-in_ok-push-in-App-clause-sound
returns-in_ok-push-in-App-clause-sound c =
    let e = rw c.in-App.is at c.view.ensures.is in
    let n : Machine = record { focus = record { term = c.in_ok-function-in-App.function; env = c.push.new.self.focus.env }; frames = c.push.new.self.frames } in
    (app_entered c.args.self.now n c.in-App.function c.in-App.argument c.in_ok-argument-in-App.argument c.requires.sound c.in_ok-push-in-App.ensures.ok (ap (λ l. l.env) c.in_ok-push-in-App.ensures.focus) c.in_ok-function-in-App.ensures.ok e c.in_ok-argument-in-App.ensures.ok).sound

pub returns-in_ok-push-in-Case-clause-sound : goal.returns-in_ok-push-in-Case-clause-sound
returns-in_ok-push-in-Case-clause-sound c =
    let e = rw c.in-Case.is at c.view.ensures.is in
    let n : Machine = record { focus = c.in_ok-scrutinee-in-Case.scrutinee; frames = c.push-in-Case.new.self.frames } in
    (case_entered c.args.self.now n c.in-Case.m.family (terms_of c.in-Case.m.params) c.in-Case.m.binders c.in-Case.m.ret c.in-Case.m.scrut (arms_of c.in-Case.m.branches) c.in_ok-outer-in-Case.outer c.requires.sound
    c.in_ok-push-in-Case.ensures.ok c.in_ok-outer-in-Case.ensures.ok e (rw c.get-m.ensures.is at c.in_ok-scrutinee-in-Case.ensures.ok) c.in_ok-scrutinee-in-Case.ensures.rank).sound

pub returns-in_ok-push-in-App-clause-load : goal.returns-in_ok-push-in-App-clause-load
returns-in_ok-push-in-App-clause-load c =
    let e = rw c.in-App.is at c.view.ensures.is in
    let n : Machine = record { focus = record { term = c.in_ok-function-in-App.function; env = c.push.new.self.focus.env }; frames = c.push.new.self.frames } in
    (app_entered c.args.self.now n c.in-App.function c.in-App.argument c.in_ok-argument-in-App.argument c.requires.sound c.in_ok-push-in-App.ensures.ok (ap (λ l. l.env) c.in_ok-push-in-App.ensures.focus) c.in_ok-function-in-App.ensures.ok e c.in_ok-argument-in-App.ensures.ok).load

pub returns-in_ok-push-in-Case-clause-load : goal.returns-in_ok-push-in-Case-clause-load
returns-in_ok-push-in-Case-clause-load c =
    let e = rw c.in-Case.is at c.view.ensures.is in
    let n : Machine = record { focus = c.in_ok-scrutinee-in-Case.scrutinee; frames = c.push-in-Case.new.self.frames } in
    (case_entered c.args.self.now n c.in-Case.m.family (terms_of c.in-Case.m.params) c.in-Case.m.binders c.in-Case.m.ret c.in-Case.m.scrut (arms_of c.in-Case.m.branches) c.in_ok-outer-in-Case.outer c.requires.sound
    c.in_ok-push-in-Case.ensures.ok c.in_ok-outer-in-Case.ensures.ok e (rw c.get-m.ensures.is at c.in_ok-scrutinee-in-Case.ensures.ok) c.in_ok-scrutinee-in-Case.ensures.rank).load

pub returns-in_ok-push-in-App-clause-falls : goal.returns-in_ok-push-in-App-clause-falls
returns-in_ok-push-in-App-clause-falls c =
    let e = rw c.in-App.is at c.view.ensures.is in
    let n : Machine = record { focus = record { term = c.in_ok-function-in-App.function; env = c.push.new.self.focus.env }; frames = c.push.new.self.frames } in
    (app_entered c.args.self.now n c.in-App.function c.in-App.argument c.in_ok-argument-in-App.argument c.requires.sound c.in_ok-push-in-App.ensures.ok (ap (λ l. l.env) c.in_ok-push-in-App.ensures.focus) c.in_ok-function-in-App.ensures.ok e c.in_ok-argument-in-App.ensures.ok).falls

pub returns-in_ok-push-in-Case-clause-falls : goal.returns-in_ok-push-in-Case-clause-falls
returns-in_ok-push-in-Case-clause-falls c =
    let e = rw c.in-Case.is at c.view.ensures.is in
    let n : Machine = record { focus = c.in_ok-scrutinee-in-Case.scrutinee; frames = c.push-in-Case.new.self.frames } in
    (case_entered c.args.self.now n c.in-Case.m.family (terms_of c.in-Case.m.params) c.in-Case.m.binders c.in-Case.m.ret c.in-Case.m.scrut (arms_of c.in-Case.m.branches) c.in_ok-outer-in-Case.outer c.requires.sound
    c.in_ok-push-in-Case.ensures.ok c.in_ok-outer-in-Case.ensures.ok e (rw c.get-m.ensures.is at c.in_ok-scrutinee-in-Case.ensures.ok) c.in_ok-scrutinee-in-Case.ensures.rank).falls

pub look-requires : goal.look-requires
look-requires c = record { memo = c.in-Item.ensures.found.2 }

pub enter_item-requires-clause-sound : goal.enter_item-requires-clause-sound
enter_item-requires-clause-sound c = c.requires.sound

pub enter_item-requires-clause-item : goal.enter_item-requires-clause-item
enter_item-requires-clause-item c =
    let e = rw c.in-Rel.is at c.view.ensures.is in
    item_of c.args.self.now.focus c.in-Item.item.now c.in_ok-looked-in-Item.looked c.in_ok-looked-in-Item.ensures.item
    (item_read c.args.self.now c.in-Rel.i c.in-Item.item.now e c.in-Item.ensures.found.0) c.in-Item.ensures.found.1

pub returns-in_ok-push-in-App-clause-waiting : goal.returns-in_ok-push-in-App-clause-waiting
returns-in_ok-push-in-App-clause-waiting c =
    let e = rw c.in-App.is at c.view.ensures.is in
    let n : Machine = record { focus = record { term = c.in_ok-function-in-App.function; env = c.push.new.self.focus.env }; frames = c.push.new.self.frames } in
    let w = app_read c.args.self.now n c.in-App.function c.in-App.argument c.in_ok-argument-in-App.argument (ap (λ l. l.env) c.in_ok-push-in-App.ensures.focus) c.in_ok-function-in-App.ensures.ok e c.in_ok-argument-in-App.ensures.ok in
    λ E V h. waiting_pushed E V c.args.kept.now.left c.args.self.now.frames.items c.push.new.self.frames.items (Argument c.in_ok-argument-in-App.argument) (read n.focus)
    c.in_ok-push-in-App.ensures.ok tt (along (λ t. AreWaiting E V c.args.kept.now.left c.args.self.now.frames.items t) (sym w) h)

pub returns-in_ok-push-in-Case-clause-waiting : goal.returns-in_ok-push-in-Case-clause-waiting
returns-in_ok-push-in-Case-clause-waiting c =
    let e = rw c.in-Case.is at c.view.ensures.is in
    let n : Machine = record { focus = c.in_ok-scrutinee-in-Case.scrutinee; frames = c.push-in-Case.new.self.frames } in
    let w = case_read c.args.self.now n c.in-Case.m.family (terms_of c.in-Case.m.params) c.in-Case.m.binders c.in-Case.m.ret c.in-Case.m.scrut (arms_of c.in-Case.m.branches) c.in_ok-outer-in-Case.outer
    c.in_ok-outer-in-Case.ensures.ok e (rw c.get-m.ensures.is at c.in_ok-scrutinee-in-Case.ensures.ok) in
    λ E V h. waiting_pushed E V c.args.kept.now.left c.args.self.now.frames.items c.push-in-Case.new.self.frames.items (Scrutinee c.in_ok-outer-in-Case.outer) (read n.focus)
    c.in_ok-push-in-Case.ensures.ok tt (along (λ t. AreWaiting E V c.args.kept.now.left c.args.self.now.frames.items t) (sym w) h)

pub returns-in_ok-looked-in-Item-clause-known : goal.returns-in_ok-looked-in-Item-clause-known
returns-in_ok-looked-in-Item-clause-known c =
    let e = rw c.in-Rel.is at c.view.ensures.is in
    known_through c.enter_item.result (λ E V. IsLooked E V (read c.args.self.now.focus) c.in_ok-looked-in-Item.looked) (λ E V. AreReducts E V c.args.kept.now.entries.items)
    (λ E V e. IsKnownFocus E V (read c.enter_item.new.self.focus) e) c.enter_item.ensures.known
    (λ E V h. along (λ t. IsLooked E V t c.in_ok-looked-in-Item.looked) (sym (item_read c.args.self.now c.in-Rel.i c.in-Item.item.now e c.in-Item.ensures.found.0))
    (c.in_ok-looked-in-Item.ensures.known E V h))
