use Rattle.pst_typing.proofs.Whole.{whole}
use Rattle.pst_typing.proofs.loading.check.Goals as goal

pub number_of_first_ill_typed_item-requires : goal.number_of_first_ill_typed_item-requires
number_of_first_ill_typed_item-requires c = whole c.source.result.now (c.model_item_counts_are_lawful.ensures c.source.result.now c.source.ensures.lawful)

pub new-requires-clause-operations : goal.new-requires-clause-operations
new-requires-clause-operations c = c.model_operations_are_lawful.ensures c.into_source.result c.into_source.ensures.lawful

pub new-requires-clause-language : goal.new-requires-clause-language
new-requires-clause-language c = c.plain_model_types_have_no_maps.ensures c.into_source.result c.into_source.ensures.lawful
