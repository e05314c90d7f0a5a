use Rattle.std.proofs.Common.{◌-◌, map, length, get_or, ap, ◌∙◌, arith}
use Rattle.pages.specs.Bytes.{records_of}
use Rattle.pages.specs.Records.{item_of}
use Rattle.names.specs.Orders.{before}
use Rattle.rows.specs.Lists.{up_to}
use Rattle.rows.proofs.KeyOrder.{up_to-before}
use Rattle.register.specs.Images.{key_of, no_item, leaf_of}
use Rattle.register.proofs.SeatFound.{seat-found}
use Rattle.register.proofs.lookups.Lookup.home.Goals as goal

pub overflow_sub-at : goal.overflow_sub-at
overflow_sub-at g c = let f = seat-found c.args.self.now.kept c.told-key (c.read_row-items.ensures ∙ ap (records_of item_of 24 20) c.image_at.ensures) (c.find-at.ensures.value ∙ up_to-before _ _) in f.some

pub leaf-leaf-requires : goal.leaf-leaf-requires
leaf-leaf-requires g c = let f = seat-found c.args.self.now.kept c.told-key (c.read_row-items.ensures ∙ ap (records_of item_of 24 20) c.image_at.ensures) (c.find-at.ensures.value ∙ up_to-before _ _) in rw c.as_slice.ensures.records (omega (arith, f.leaf, f.home.to))

pub returns : goal.returns
returns g c =
    let held = c.read_row-items.ensures ∙ ap (records_of item_of 24 20) c.image_at.ensures in
    let f = seat-found c.args.self.now.kept c.told-key held (c.find-at.ensures.value ∙ up_to-before _ _) in
    let at = c.find-at.result - 1 in
    let read = ap (λ is. (get_or is at no_item).page) c.as_slice.ensures.records in
    let leaf = read ∙ f.leaf in
    record {
      items = held;
      at = f.at;
      page = read ∙ f.page;
      from = omega (arith, leaf, f.home.from);
      to = omega (arith, leaf, f.home.to);
      small = c.args.self.now.kept.most;
      leaf = c.leaf-leaf.ensures;
      most = omega (arith, ap length c.leaf-leaf.ensures, ap (λ p. length (leaf_of (map g.P.Paged.image c.args.self.now.pages.now) p)) leaf, ap length f.home.held, f.home.few);
      place = c.find-place.ensures.value ∙ up_to-before _ _ ∙ ap (λ es. up_to before c.args.key.now (map key_of es)) c.leaf-leaf.ensures;
      inside = c.find-place.ensures.bound;
    }

pub invariant_of-result : goal.invariant_of-result
invariant_of-result g c =
    let f = seat-found c.args.self.now.kept c.told-key (c.read_row-items.ensures ∙ ap (records_of item_of 24 20) c.image_at.ensures) (c.find-at.ensures.value ∙ up_to-before _ _) in record { within = f.within }
