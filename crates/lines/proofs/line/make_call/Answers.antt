use Rattle.std.proofs.Common.{codes, arith, rules, refl}
use Rattle.lines.proofs.Words.{named}
use Rattle.lines.proofs.line.make_call.Goals as goal

pub returns-in-open-default-default : goal.returns-in-open-default-default
returns-in-open-default-default c = named c.args.word.now (codes "open") _ _ _ _ (omega arith) (search rules) refl refl

pub returns-in-propose-default-default : goal.returns-in-propose-default-default
returns-in-propose-default-default c = named c.args.word.now (codes "propose") _ _ _ _ (omega arith) (search rules) refl refl

pub returns-in-start-eq0-eq0 : goal.returns-in-start-eq0-eq0
returns-in-start-eq0-eq0 c = named c.args.word.now (codes "start") _ _ 0 0 (omega arith) (search rules) c.in-start-eq0-eq0.is-1 c.in-start-eq0-eq0.is-2

pub returns-in-deliver-default-eq0 : goal.returns-in-deliver-default-eq0
returns-in-deliver-default-eq0 c = named c.args.word.now (codes "deliver") _ _ _ 0 (omega arith) (search rules) refl c.in-deliver-default-eq0.is-2

pub returns-in-consult-default-eq0 : goal.returns-in-consult-default-eq0
returns-in-consult-default-eq0 c = named c.args.word.now (codes "consult") _ _ _ 0 (omega arith) (search rules) refl c.in-consult-default-eq0.is-2

pub returns-in-crash-default-eq0 : goal.returns-in-crash-default-eq0
returns-in-crash-default-eq0 c = named c.args.word.now (codes "crash") _ _ _ 0 (omega arith) (search rules) refl c.in-crash-default-eq0.is-2

pub returns-in-pass-eq0-eq0 : goal.returns-in-pass-eq0-eq0
returns-in-pass-eq0-eq0 c = named c.args.word.now (codes "pass") _ _ 0 0 (omega arith) (search rules) c.in-pass-eq0-eq0.is-1 c.in-pass-eq0-eq0.is-2
