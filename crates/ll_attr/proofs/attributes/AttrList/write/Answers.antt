-- One attribute more is written after what separates it.
use Rattle.std.proofs.Common.{◌≡◌, ◌++◌, ◌∙◌, ap, [], rules, string_bytes}
use Rattle.ll_attr.specs.Attributes.{spelling}
use Rattle.ll_attr.proofs.Written.{spelled_after, spelled_whole, spelled_more}
use Rattle.ll_attr.proofs.attributes.AttrList.write.Goals as goal

pub loop-attribute-init : goal.loop-attribute-init
loop-attribute-init c =
    let list = c.args.self.now in
    (search rules, ap (λ text. text ++ spelled_after [] list) c.new-text.ensures.bytes ∙ spelled_whole list)

pub loop-attribute-preserved : goal.loop-attribute-preserved
loop-attribute-preserved c =
    let list = c.args.self.now in
    let items = c.deref-attribute-items.result.now in
    let l = c.loop-attribute in
    let same : items ≡ list = c.deref-attribute-items.ensures.value ∙ c.self.view_is in
    let more = spelled_more (string_bytes l.text) (string_bytes c.push_str.new.self) (string_bytes c.append_to.new.text) (spelling list) l.separator.now items list l.attribute-index
    c.attribute-item.result same c.loop-attribute-test.true c.attribute-item.is c.in_ok-push_str.ensures.bytes c.in_ok-append_to.ensures l.invariant.1 in
    (search rules, more)
