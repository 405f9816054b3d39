use Rattle.std.proofs.Common.{◌≡◌, ◌-◌, ◌++◌, length, take, drop}
use Rattle.std.specs.Option.{option_map}
use Rattle.lines.specs.Asks.{values_in}
use Rattle.lines.proofs.reader.row_in.Given as goal

abbrev pub invariant-loop-column : goal.invariant-loop-column
invariant-loop-column l =
    record {
      long : length l.column-items ≡ 8;
      left : l.line ≡ drop l.column-index l.fn.line;
      values : values_in 8 l.fn.line ≡ option_map (λ vs. take l.column-index l.column-items ++ vs) (values_in (8 - l.column-index) l.line);
    }
