use Rattle.std.proofs.Common.{ap, refl, subst as along}
use Rattle.reduce_machine.specs.Reducts.{AreWaiting}
use Rattle.reduce_machine.specs.Reads.{read}
use Rattle.reduce_machine.specs.declared.frames.Frame.TheVariants.{Update}
use Rattle.reduce_machine.specs.declared.machine.Machine.{Machine}
use Rattle.reduce_machine.proofs.Keeping.{waiting_begun}
use Rattle.reduce_machine.proofs.Layering.{item_entered, wanted_entered}
use Rattle.reduce_machine.proofs.machine.Machine.enter_item.Goals as goal

pub returns-in-Plain-clause-grown : goal.returns-in-Plain-clause-grown
returns-in-Plain-clause-grown c =
    let i = rw c.in-Plain.is at c.requires.item in
    let n : Machine = record { focus = c.in-Plain.item; frames = c.args.self.now.frames } in
    (item_entered c.args.self.now n c.in-Plain.item c.requires.sound refl refl i.0 i.1).grown

pub returns-in_ok-push-in-Wanted-clause-grown : goal.returns-in_ok-push-in-Wanted-clause-grown
returns-in_ok-push-in-Wanted-clause-grown c =
    let i = rw c.in-Wanted.is at c.requires.item in
    let n : Machine = record { focus = c.in-Wanted.item; frames = c.push.new.self.frames } in
    (wanted_entered c.args.self.now n c.in_ok-own-in-Wanted.own c.args.left c.in-Wanted.item c.requires.sound c.in_ok-push-in-Wanted.ensures.ok refl i.0 i.1).grown

pub returns-in-Plain-clause-sound : goal.returns-in-Plain-clause-sound
returns-in-Plain-clause-sound c =
    let i = rw c.in-Plain.is at c.requires.item in
    let n : Machine = record { focus = c.in-Plain.item; frames = c.args.self.now.frames } in
    (item_entered c.args.self.now n c.in-Plain.item c.requires.sound refl refl i.0 i.1).sound

pub returns-in_ok-push-in-Wanted-clause-sound : goal.returns-in_ok-push-in-Wanted-clause-sound
returns-in_ok-push-in-Wanted-clause-sound c =
    let i = rw c.in-Wanted.is at c.requires.item in
    let n : Machine = record { focus = c.in-Wanted.item; frames = c.push.new.self.frames } in
    (wanted_entered c.args.self.now n c.in_ok-own-in-Wanted.own c.args.left c.in-Wanted.item c.requires.sound c.in_ok-push-in-Wanted.ensures.ok refl i.0 i.1).sound

pub returns-in-Plain-clause-load : goal.returns-in-Plain-clause-load
returns-in-Plain-clause-load c =
    let i = rw c.in-Plain.is at c.requires.item in
    let n : Machine = record { focus = c.in-Plain.item; frames = c.args.self.now.frames } in
    (item_entered c.args.self.now n c.in-Plain.item c.requires.sound refl refl i.0 i.1).load

pub returns-in_ok-push-in-Wanted-clause-load : goal.returns-in_ok-push-in-Wanted-clause-load
returns-in_ok-push-in-Wanted-clause-load c =
    let i = rw c.in-Wanted.is at c.requires.item in
    let n : Machine = record { focus = c.in-Wanted.item; frames = c.push.new.self.frames } in
    (wanted_entered c.args.self.now n c.in_ok-own-in-Wanted.own c.args.left c.in-Wanted.item c.requires.sound c.in_ok-push-in-Wanted.ensures.ok refl i.0 i.1).load

pub returns-in-Plain-clause-falls : goal.returns-in-Plain-clause-falls
returns-in-Plain-clause-falls c =
    let i = rw c.in-Plain.is at c.requires.item in
    let n : Machine = record { focus = c.in-Plain.item; frames = c.args.self.now.frames } in
    (item_entered c.args.self.now n c.in-Plain.item c.requires.sound refl refl i.0 i.1).falls

pub returns-in_ok-push-in-Wanted-clause-falls : goal.returns-in_ok-push-in-Wanted-clause-falls
returns-in_ok-push-in-Wanted-clause-falls c =
    let i = rw c.in-Wanted.is at c.requires.item in
    let n : Machine = record { focus = c.in-Wanted.item; frames = c.push.new.self.frames } in
    (wanted_entered c.args.self.now n c.in_ok-own-in-Wanted.own c.args.left c.in-Wanted.item c.requires.sound c.in_ok-push-in-Wanted.ensures.ok refl i.0 i.1).falls

pub returns-in-Known-clause-known : goal.returns-in-Known-clause-known
returns-in-Known-clause-known c = λ E V h. rw c.in-Known.is at h

pub returns-in-Plain-clause-waiting : goal.returns-in-Plain-clause-waiting
returns-in-Plain-clause-waiting c =
    let i = rw c.in-Plain.is at c.requires.item in
    λ E V h. along (λ t. AreWaiting E V c.args.left c.args.self.now.frames.items t) i.0 h

pub returns-in_ok-push-in-Wanted-clause-waiting : goal.returns-in_ok-push-in-Wanted-clause-waiting
returns-in_ok-push-in-Wanted-clause-waiting c =
    let i = rw c.in-Wanted.is at c.requires.item in
    λ E V h. waiting_begun E V c.args.left c.args.self.now.frames.items c.push.new.self.frames.items c.in_ok-own-in-Wanted.own (read c.args.self.now.focus) (read c.in-Wanted.item)
    c.in_ok-push-in-Wanted.ensures.ok (ap read c.in_ok-own-in-Wanted.ensures.ok) i.0 h
