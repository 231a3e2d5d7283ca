use Rattle.lv_symbols.proofs.PartLaws.{range_told, array_told}
use Rattle.lv_symbols.proofs.signal.signal.Goals as goal

pub returns-in-Err : goal.returns-in-Err
returns-in-Err c = record {
  at = λ here near. range_told here c.args.range.now c.args.array.now c.args.place c.in-Err.error c.args.signed (c.in-Err.ensures.at here near).wrong;
}

pub returns-in-Err-elements : goal.returns-in-Err-elements
returns-in-Err-elements c = record {
  at = λ here near. array_told here c.args.range.now c.args.array.now c.args.place c.in-Err-elements.error c.args.signed
      (c.in-Err-elements.ensures.at here near).wrong;
}
