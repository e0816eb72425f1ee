use Rattle.cert_rules.specs.declared.item.CertItem.TheVariants.{Left, Right}
use Rattle.cert_text.specs.CertReading.{LeftSteps, RightSteps}
use Rattle.cert_text.proofs.Taking.{count_small, count_great, count_wrong, items_none, left_numbers, right_numbers}
use Rattle.cert_text.proofs.reading.steps.Goals as goal

pub returns-in-Number-clause-left : goal.returns-in-Number-clause-left
returns-in-Number-clause-left c =
    count_small c.args.bytes.now LeftSteps Left (left_numbers c.args.bytes.now) c.args.at c.in-Some.token c.in-Some.ensures.next c.in-Number.count c.in-Number.ensures.number.0 c.in-Number.ensures.number.1

pub returns-in-TooGreat-clause-left : goal.returns-in-TooGreat-clause-left
returns-in-TooGreat-clause-left c = count_great c.args.bytes.now LeftSteps Left (left_numbers c.args.bytes.now) c.args.at c.in-Some.token c.in-Some.ensures.next c.in-TooGreat.ensures.number

pub returns-in-NoNumber-clause-left : goal.returns-in-NoNumber-clause-left
returns-in-NoNumber-clause-left c = count_wrong c.args.bytes.now LeftSteps Left (left_numbers c.args.bytes.now) c.args.at c.in-Some.token c.in-Some.ensures.next c.in-NoNumber.ensures.number

pub returns-in-None-clause-left : goal.returns-in-None-clause-left
returns-in-None-clause-left c = items_none c.args.bytes.now LeftSteps c.args.at c.in-None.ensures.next

pub returns-in-Number-clause-right : goal.returns-in-Number-clause-right
returns-in-Number-clause-right c =
    count_small c.args.bytes.now RightSteps Right (right_numbers c.args.bytes.now) c.args.at c.in-Some.token c.in-Some.ensures.next c.in-Number.count c.in-Number.ensures.number.0 c.in-Number.ensures.number.1

pub returns-in-TooGreat-clause-right : goal.returns-in-TooGreat-clause-right
returns-in-TooGreat-clause-right c = count_great c.args.bytes.now RightSteps Right (right_numbers c.args.bytes.now) c.args.at c.in-Some.token c.in-Some.ensures.next c.in-TooGreat.ensures.number

pub returns-in-NoNumber-clause-right : goal.returns-in-NoNumber-clause-right
returns-in-NoNumber-clause-right c = count_wrong c.args.bytes.now RightSteps Right (right_numbers c.args.bytes.now) c.args.at c.in-Some.token c.in-Some.ensures.next c.in-NoNumber.ensures.number

pub returns-in-None-clause-right : goal.returns-in-None-clause-right
returns-in-None-clause-right c = items_none c.args.bytes.now RightSteps c.args.at c.in-None.ensures.next
