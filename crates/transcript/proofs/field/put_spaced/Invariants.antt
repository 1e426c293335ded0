use Rattle.std.proofs.Common.{length, take, ◌≡◌}
use Rattle.std.specs.List.{flat_map}
use Rattle.transcript.specs.Text.{begun_with}
use Rattle.transcript.specs.Fields.{spaced}
use Rattle.transcript.proofs.field.put_spaced.Given as goal

abbrev pub invariant-loop-field : goal.invariant-loop-field
invariant-loop-field l = record {
  text : l.buffer ≡ begun_with (flat_map spaced (take l.field-index l.fields)) l.fn.buffer;
  length : l.at ≡ length (flat_map spaced (take l.field-index l.fields));
}
