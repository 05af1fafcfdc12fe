pub mod RootLaws
pub mod ClassLaws
pub mod MemberLaws
pub mod Unions
pub mod Chains
pub mod UnionExamples
