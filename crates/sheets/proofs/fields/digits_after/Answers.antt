use Rattle.std.proofs.Common.{rules}
use Rattle.spelling.proofs.Digits.{digit_high, power_bound}
use Rattle.sheets.proofs.fields.digits_after.Goals as goal

pub overflow_mul-number : goal.overflow_mul-number
overflow_mul-number c = search (rules, power_bound c.loop-digit.number c.loop-digit.digit-index)

pub overflow_add-number : goal.overflow_add-number
overflow_add-number c = search (rules, power_bound c.loop-digit.number c.loop-digit.digit-index, digit_high)
