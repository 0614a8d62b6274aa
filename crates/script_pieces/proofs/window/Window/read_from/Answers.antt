use Rattle.std.proofs.Common.{◌≡◌, ◌+◌, ◌-◌, ℕ, List, length, slice_range, ap, sym, subst, ◌∙◌, arith}
use Rattle.std.proofs.lemmas.List.{with_items_is}
use Rattle.std.specs.Vec.{with_items}
use borrow.Rule.Slice.PartMut.{put_mid}
use Rattle.script_pieces.specs.Filling.{Fill}
use Rattle.script_pieces.specs.Windows.{items}
use Rattle.script_pieces.proofs.Slices.{filled, kept, length_written}
use Rattle.script_pieces.proofs.window.Window.read_from.Goals as goal

pub returns-in-Ok-clause-bytes : goal.returns-in-Ok-clause-bytes
returns-in-Ok-clause-bytes g c =
    let w = c.make_room.new.self in
    let old = c.deref_mut.result.now in
    let read = c.read.new.buf in
    let room : ℕ = w.end + c.min-room.result - w.end in
    let value : old ≡ w.bytes.items = c.deref_mut.ensures.value in
    let size : length old ≡ w.bytes.len = c.deref_mut.ensures.len in
    let all : length old ≡ 131072 = ap length value ∙ w.size in
    let written : length (put_mid w.end room old read) ≡ w.bytes.len = length_written w.end room old read (omega arith) (omega arith) ∙ size in
    let is : (with_items w.bytes (put_mid w.end room old read)).items ≡ put_mid w.end room old read = with_items_is w.bytes (put_mid w.end room old read) written in
    let before : slice_range old w.start w.end ≡ items c.args.self.now = ap (λ (xs : List ℕ). slice_range xs w.start w.end) value ∙ c.make_room.ensures.items in (
      subst (λ (zs : List ℕ). Fill (items c.args.self.now) (slice_range zs w.start (w.end + c.in-Ok.count)) (g.S.Source.left c.args.source.now) (g.S.Source.left c.read.new.self) c.in-Ok.count) (sym is)
          (filled (items c.args.self.now) old read w.start w.end room c.in-Ok.count _ _ before w.ordered (omega arith) c.in-Ok.ensures.within (omega arith) c.in-Ok.ensures.bytes),
      omega (arith, c.in-Ok.ensures.within),
    )

pub returns-in-Err-clause-bytes : goal.returns-in-Err-clause-bytes
returns-in-Err-clause-bytes g c =
    let w = c.make_room.new.self in
    let old = c.deref_mut.result.now in
    let read = c.read.new.buf in
    let room : ℕ = w.end + c.min-room.result - w.end in
    let value : old ≡ w.bytes.items = c.deref_mut.ensures.value in
    let size : length old ≡ w.bytes.len = c.deref_mut.ensures.len in
    let all : length old ≡ 131072 = ap length value ∙ w.size in
    let written : length (put_mid w.end room old read) ≡ w.bytes.len = length_written w.end room old read (omega arith) (omega arith) ∙ size in
    let is : (with_items w.bytes (put_mid w.end room old read)).items ≡ put_mid w.end room old read = with_items_is w.bytes (put_mid w.end room old read) written in
    let before : slice_range old w.start w.end ≡ items c.args.self.now = ap (λ (xs : List ℕ). slice_range xs w.start w.end) value ∙ c.make_room.ensures.items in
    record {
      held = ap (λ (zs : List ℕ). slice_range zs w.start w.end) is ∙ kept old read w.start w.end room w.ordered (omega arith) ∙ before;
      left = c.in-Err.ensures.bytes;
    }
